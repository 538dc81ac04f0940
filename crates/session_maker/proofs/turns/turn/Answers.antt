use Rattle.std.proofs.Common.{◌∙◌}
use Rattle.std.proofs.lemmas.Result.{IfOk-weaker}
use Rattle.session_maker.proofs.TurnKinds.{deleted, inserted, undone}
use Rattle.session_maker.proofs.turns.turn.Goals as goal

pub returns-then-number-gt1 : goal.returns-then-number-gt1
returns-then-number-gt1 c =
    IfOk-weaker c.undo.result _ _
    (λ line e. e ∙ undone c.args.number c.args.replica c.args.length c.args.draws.now c.draw-kind.new.self c.draw-kind.result c.draw-kind.ensures.state c.draw-kind.ensures.drawn c.if-kind-eq0.true c.if-number-gt1.true)
    c.undo.ensures

pub returns-then-kind-eq2 : goal.returns-then-kind-eq2
returns-then-kind-eq2 c =
    IfOk-weaker c.delete.result _ _
    (λ line e. e ∙ deleted c.args.number c.args.replica c.args.length c.args.draws.now c.draw-kind.new.self c.draw-kind.result c.draw-kind.ensures.state c.draw-kind.ensures.drawn c.if-kind-eq2.either)
    c.delete.ensures

pub returns-else-kind-eq2 : goal.returns-else-kind-eq2
returns-else-kind-eq2 c =
    IfOk-weaker c.insert.result _ _
    (λ line e. e ∙ inserted c.args.number c.args.replica c.args.length c.args.draws.now c.draw-kind.new.self c.draw-kind.result c.draw-kind.ensures.state c.draw-kind.ensures.drawn c.else-kind-eq0.either c.if-kind-eq2.false)
    c.insert.ensures
