use Rattle.op_model.proofs.histories.Growing.{shape_of}
use Rattle.text_buffer.proofs.Taken.{good_with_none, plain_good}
use Rattle.text_buffer.proofs.buffer.Buffer.open_good.Goals as goal

pub full-requires : goal.full-requires
full-requires c = shape_of c.args.self.history c.args.self.waiting c.args.op (plain_good c.args.self c.args.op c.requires.good)

pub with_operation-requires-clause-good : goal.with_operation-requires-clause-good
with_operation-requires-clause-good c = good_with_none c.args.self c.args.op c.requires.good
