use Rattle.std.proofs.Common.{subst}
use Rattle.op_model.specs.Lawful.{Lawful}
use Rattle.op_model.proofs.MainLaws.{same_sets_agree}
use Rattle.text_buffer.specs.Buffer.{BufferState}
use Rattle.text_buffer.proofs.buffer.agree.Goals as goal

pub returns : goal.returns
returns c = λ s. (same_sets_agree c.args.a.now.history c.args.b.now.history
    (subst (λ (x : BufferState). Lawful x.history) c.a.view_is c.a.invariant.history.lawful)
    (subst (λ (x : BufferState). Lawful x.history) c.b.view_is c.b.invariant.history.lawful) s).2
