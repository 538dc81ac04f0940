use Rattle.std.proofs.Common.{◌≡◌, ◌∙◌, [], ◌∷◌, ap, arith, length, sym}
use Rattle.rope_chunks.specs.Spots.{texts_up_to}
use Rattle.rope_chunks.proofs.CutTexts.{none_left, last_cut}
use Rattle.rope_chunks.proofs.lent.ChunksInIterator.next.Goals as goal

pub returns-then-self-eq0-clause-steps : goal.returns-then-self-eq0-clause-steps
returns-then-self-eq0-clause-steps c =
    let none : c.args.self.now ≡ [] = sym c.self.view_is ∙ ap (λ n. texts_up_to n c.self.inside.chunks) c.if-self-eq0.true ∙ none_left c.self.inside.chunks in
    (none, none)

pub returns-clause-steps : goal.returns-clause-steps
returns-clause-steps c =
    sym c.self.view_is
    ∙ last_cut c.self.inside.chunks c.next.new.self c.in_ok-text.text.now c.split_at.result.0.now c.self.inside.left c.in_ok-text.ensures.steps (omega arith) (omega arith) c.split_at.ensures.front

pub returns-clause-goes : goal.returns-clause-goes
returns-clause-goes c =
    let steps : c.args.self.now ≡ c.split_at.result.0.now ∷ texts_up_to 0 c.next.new.self = returns-clause-steps c in
    record { on = λ _. (tt, tt, omega (arith, ap length steps)); keeps = tt; rests = λ _. tt }
