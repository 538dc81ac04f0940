use Rattle.std.proofs.Common.{◌≡◌, None, Some, sym, ◌∙◌}
use Rattle.std.specs.Option.{option_map}
use Rattle.text_buffer.specs.Buffer.{BufferState}
use Rattle.session_work.specs.Work.{applied_count, buffer_of}
use Rattle.session_work.proofs.Giving.{count_reported, unanswered}
use Rattle.session_work.proofs.Steps.{same_state}
use Rattle.session_work.proofs.replay.Progress.work_reopen.Goals as goal

pub returns-in_default-clause-report : goal.returns-in_default-clause-report
returns-in_default-clause-report c =
    let e : None ≡ option_map (λ (b : BufferState). applied_count b.history) (buffer_of c.args.id c.args.self.now.exchange.buffers) = sym c.in_default.is ∙ c.in_ok-count.ensures.count in
    unanswered _ _ _ _ e

pub returns-in_default-clause-state : goal.returns-in_default-clause-state
returns-in_default-clause-state c = same_state _ _ _ _ c.in_ok-count.ensures.buffers c.in_ok-count.ensures.operations

pub returns-clause-report : goal.returns-clause-report
returns-clause-report c =
    let own = buffer_of c.args.id c.args.self.now.exchange.buffers in
    let e : Some c.in-Some.count ≡ option_map (λ (b : BufferState). applied_count b.history) own = sym c.in-Some.is ∙ c.in_ok-count.ensures.count in
    count_reported c.args.id own c.in-Some.count _ _ e c.in_ok-write_line.ensures.ok

pub returns-clause-state : goal.returns-clause-state
returns-clause-state c = same_state _ _ _ _ c.in_ok-count.ensures.buffers c.in_ok-count.ensures.operations
