use Rattle.text_buffer.proofs.Alike.{alike}
use Rattle.text_buffer.proofs.laws.snapshots_answer_alike.Goals as goal

pub returns : goal.returns
returns c = λ s. alike c.args.a.now c.args.b.now c.known.ensures.lawful c.known-2.ensures.lawful s
