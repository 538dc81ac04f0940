use Rattle.std.proofs.Common.{◌≡◌, None, Some, sym, ◌∙◌}
use Rattle.std.specs.Option.{option_map}
use Rattle.session_work.specs.Work.{buffer_of, give_answer, operation_of}
use Rattle.session_work.proofs.Giving.{answer_reported, unanswered}
use Rattle.session_work.proofs.Steps.{same_state}
use Rattle.session_work.proofs.replay.Progress.work_give.Goals as goal

pub returns-in_default-clause-report : goal.returns-in_default-clause-report
returns-in_default-clause-report c =
    let op = operation_of c.args.number c.args.self.now.exchange.operations in
    let e : None ≡ option_map (give_answer op) (buffer_of c.args.id c.args.self.now.exchange.buffers) = sym c.in_default.is ∙ c.in_ok-answer.ensures.answer in
    unanswered _ _ _ _ e

pub returns-in_default-clause-state : goal.returns-in_default-clause-state
returns-in_default-clause-state c = same_state _ _ _ _ c.in_ok-answer.ensures.buffers c.in_ok-answer.ensures.operations

pub returns-clause-report : goal.returns-clause-report
returns-clause-report c =
    let own = buffer_of c.args.id c.args.self.now.exchange.buffers in
    let op = operation_of c.args.number c.args.self.now.exchange.operations in
    let e : Some c.in-Some.answer ≡ option_map (give_answer op) own = sym c.in-Some.is ∙ c.in_ok-answer.ensures.answer in
    answer_reported c.args.number c.args.id op own c.in-Some.answer _ _ e c.in_ok-write_line.ensures.ok

pub returns-clause-state : goal.returns-clause-state
returns-clause-state c = same_state _ _ _ _ c.in_ok-answer.ensures.buffers c.in_ok-answer.ensures.operations
