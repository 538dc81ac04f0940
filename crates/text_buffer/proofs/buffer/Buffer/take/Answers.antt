use Rattle.std.proofs.Common.{◌≡◌, ◌++◌, ℕ, false, subst, sym}
use Rattle.op_model.specs.declared.operation.Operation.{Operation}
use Rattle.op_model.specs.Answers.{any_stamp}
use Rattle.op_model.specs.Answers.Answer.{Waits}
use Rattle.op_model.specs.Rules.{answer_under}
use Rattle.op_model.proofs.answers.Under.{under_waits}
use Rattle.op_model.proofs.settling.Waiting.{not_waiting}
use Rattle.op_answers.proofs.Answering.{waits_new}
use Rattle.text_buffer.specs.Buffer.{BufferState}
use Rattle.text_buffer.specs.BufferInside.{state_of}
use Rattle.text_buffer.proofs.Applied.{IsBuffer-deferred}
use Rattle.text_buffer.proofs.buffer.Buffer.take.Goals as goal

-- no operation that is applied or waits has the stamp of one that is to wait
stamp_is_new : (b : BufferState) (op : Operation) (r v : ℕ) → answer_under b.endings b.history b.waiting op ≡ Waits r v → any_stamp (b.history ++ b.waiting) op ≡ false
stamp_is_new b op r v e = waits_new b.history b.waiting op r v (under_waits b.endings b.history b.waiting op r v e).0

pub defer-requires : goal.defer-requires
defer-requires c = not_waiting c.self.inside.document c.self.inside.waiting c.args.op
    (subst (λ (b : BufferState). any_stamp (b.history ++ b.waiting) c.args.op ≡ false) (sym c.self.view_is) (stamp_is_new c.args.self.now c.args.op _ _ (sym c.in-Waits.ensures)))

pub invariant_of-self-in-Waits : goal.invariant_of-self-in-Waits
invariant_of-self-in-Waits c =
    let n = subst (λ (b : BufferState). any_stamp (b.history ++ b.waiting) c.args.op ≡ false) (sym c.self.view_is) (stamp_is_new c.args.self.now c.args.op _ _ (sym c.in-Waits.ensures)) in
    IsBuffer-deferred (state_of c.self.inside) c.args.op _ c.self.invariant n c.in_ok-defer-in-Waits.ensures.ok
