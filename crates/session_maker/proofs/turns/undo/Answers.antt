use Rattle.std.proofs.Common.{◌≡◌, ◌+◌, ◌-◌, [], ◌∷◌, ap₂}
use Rattle.session_lines.specs.declared.session.SessionLine.TheVariants.{Undo}
use Rattle.session_maker.specs.Draws.{draw_below, next}
use Rattle.session_maker.proofs.turns.undo.Goals as goal

pub returns : goal.returns
returns c =
    let numbers : c.new.result ≡ (1 + draw_below (c.args.number - 1) (next c.args.draws.now)) ∷ [] = cc (c.new.ensures, c.in_ok-push.ensures.items, c.new-numbers.ensures.items, c.draw.ensures.drawn) in
    ap₂ (λ ns x. (Undo c.args.replica ns, x)) numbers c.draw.ensures.state
