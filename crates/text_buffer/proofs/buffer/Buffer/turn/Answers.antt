use Rattle.std.proofs.Common.{sym}
use Rattle.op_model.proofs.answers.Passed.{passed}
use Rattle.op_model.proofs.answers.Under.{under_good}
use Rattle.text_buffer.proofs.buffer.Buffer.turn.Goals as goal

pub full-requires : goal.full-requires
full-requires c =
    let u = under_good c.self.inside.endings c.self.inside.document c.in_ok-nothing.nothing c.args.op.now (sym c.in-Good.ensures) in
    (passed c.self.inside.document c.in_ok-nothing.nothing c.args.op.now u.0).shape
