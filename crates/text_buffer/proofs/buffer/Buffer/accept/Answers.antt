use Rattle.std.proofs.Common.{◌≡◌, ◌⊎◌, inr, sym, ◌∙◌, ap, subst, length}
use Rattle.op_model.proofs.histories.Growing.{shape_of}
use Rattle.op_model.specs.Steps.Step.{Takes}
use Rattle.text_buffer.specs.Buffer.{BufferState, after_settle}
use Rattle.text_buffer.specs.Calls.{IsStopped}
use Rattle.text_buffer.specs.Settling.{IsStoppedSettling}
use Rattle.text_buffer.proofs.Taken.{answer_good, good_with_none, plain_good, not_less, on_err}
use Rattle.text_buffer.proofs.buffer.Buffer.accept.Goals as goal

pub full-requires : goal.full-requires
full-requires c = shape_of c.args.self.now.history c.args.self.now.waiting c.args.op (plain_good c.args.self.now c.args.op c.requires)

pub apply-requires-clause-good : goal.apply-requires-clause-good
apply-requires-clause-good c = good_with_none c.args.self.now c.args.op c.requires

pub overflow_sub-result : goal.overflow_sub-result
overflow_sub-result c = not_less c.args.self.now c.args.op c.len-before.result c.len.result
    (c.len-before.ensures ∙ ap length c.operations.ensures ∙ ap (λ (b : BufferState). length b.history) c.self.view_is)
    (c.len.ensures ∙ ap length c.operations-2.ensures ∙ ap (λ (b : BufferState). length b.history) (c.self-2.view_is ∙ c.in_ok-settle.ensures.new ∙ ap after_settle c.in_ok-apply.ensures.ok))

pub returns-in_err-settle-clause-stopped : goal.returns-in_err-settle-clause-stopped
returns-in_err-settle-clause-stopped c = on_err c.from_residual-in_err-settle.result ((c.settle.new.self ≡ c.args.self.now) ⊎ IsStopped (Takes c.args.op) c.args.self.now c.settle.new.self)
    (inr (answer_good c.args.self.now c.args.op c.requires (sym c.in_default.ensures.fault), subst (λ (b : BufferState). IsStoppedSettling b c.settle.new.self) c.in_ok-apply.ensures.ok c.in_err-settle.ensures.stopped))
