use Rattle.text_buffer.proofs.Alike.{stay}
use Rattle.text_buffer.proofs.laws.anchors_stay.Goals as goal

pub returns-clause-front : goal.returns-clause-front
returns-clause-front c = stay c.args.earlier.now c.args.later.now c.known.ensures.lawful c.known-2.ensures.lawful

pub returns-clause-calls : goal.returns-clause-calls
returns-clause-calls c = λ b n r e f. returns-clause-front c (c.snapshots_append.ensures b n r e f)
