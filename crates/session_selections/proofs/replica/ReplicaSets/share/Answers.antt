use Rattle.std.proofs.Common.{◌≡◌, Option, Some, IfOk, OnErr, OnOk, refl, subst, sym}
use Rattle.selections.specs.Sets.{SelectionState}
use Rattle.selections.specs.Taking.{answer}
use Rattle.selections.specs.declared.faults.SelFault.TheVariants.{OutOfMemory}
use Rattle.selections.specs.declared.selection.SelectionOp.{SelectionOp}
use Rattle.session_selections.specs.Answers.{after_take, share_answer, take_answer}
use Rattle.session_selections.proofs.Outcomes.{said_of, shared-after, shared-err, some_of_ok, take-outcome}
use Rattle.session_selections.proofs.replica.ReplicaSets.share.Goals as goal

pub returns-in-Some-clause-answer : goal.returns-in-Some-clause-answer
returns-in-Some-clause-answer c =
    let a = answer c.self.inside.sets c.in-Some.op in
    let or = take-outcome c.self.inside.sets c.in-Some.op c.take.result c.take.ensures.took c.take.ensures.fault in
    subst (λ (o : Option SelectionOp). IfOk c.take_answer.result (λ x. share_answer o c.args.self.now ≡ Some x)) (sym c.in-Some.is)
    (subst (λ (s : SelectionState). IfOk c.take_answer.result (λ x. share_answer (Some c.in-Some.op) s ≡ Some x)) c.self.view_is
    (said_of take_answer c.take.result a OutOfMemory c.take_answer.result refl or (some_of_ok c.take_answer.result (take_answer c.take.result) c.take_answer.ensures)))

pub returns-in-Some-clause-after : goal.returns-in-Some-clause-after
returns-in-Some-clause-after c =
    let or = take-outcome c.self.inside.sets c.in-Some.op c.take.result c.take.ensures.took c.take.ensures.fault in
    subst (λ (o : Option SelectionOp). OnOk c.take_answer.result (c.take.new.self ≡ after_take o c.args.self.now)) (sym c.in-Some.is)
    (subst (λ (s : SelectionState). OnOk c.take_answer.result (c.take.new.self ≡ after_take (Some c.in-Some.op) s)) c.self.view_is
    (shared-after c.self.inside.sets c.take.new.self c.in-Some.op c.take.result or c.take.ensures.new c.take.ensures.err c.take_answer.result c.take_answer.ensures))

pub returns-in-Some-clause-err : goal.returns-in-Some-clause-err
returns-in-Some-clause-err c =
    let or = take-outcome c.self.inside.sets c.in-Some.op c.take.result c.take.ensures.took c.take.ensures.fault in
    subst (λ (s : SelectionState). OnErr c.take_answer.result (c.take.new.self ≡ s)) c.self.view_is
    (shared-err c.self.inside.sets c.take.new.self c.in-Some.op c.take.result or c.take.ensures.new c.take.ensures.err c.take_answer.result c.take_answer.ensures)
