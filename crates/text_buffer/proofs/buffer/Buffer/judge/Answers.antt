use Rattle.std.proofs.Common.{◌∙◌, ap}
use Rattle.op_model.specs.Rules.{answer_under}
use Rattle.op_model.proofs.settling.Waiting.{waiting_distinct}
use Rattle.text_buffer.specs.Buffer.{BufferState}
use Rattle.text_buffer.proofs.buffer.Buffer.judge.Goals as goal

pub judge-requires : goal.judge-requires
judge-requires c = waiting_distinct c.self.inside.waiting c.self.invariant.waiting_ascending

pub returns : goal.returns
returns c = c.judge.ensures ∙ ap (λ (b : BufferState). answer_under b.endings b.history b.waiting c.args.op.now) c.self.view_is
