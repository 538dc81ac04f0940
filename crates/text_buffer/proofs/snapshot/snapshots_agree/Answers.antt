use Rattle.op_model.proofs.MainLaws.{same_sets_agree}
use Rattle.text_buffer.proofs.snapshot.snapshots_agree.Goals as goal

pub returns : goal.returns
returns c = λ s. (same_sets_agree c.args.a.now c.args.b.now c.known.ensures.lawful c.known-2.ensures.lawful s).2
