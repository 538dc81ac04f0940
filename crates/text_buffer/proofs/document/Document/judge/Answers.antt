use Rattle.std.proofs.Common.{◌∙◌, ap}
use Rattle.op_model.specs.Histories.{History}
use Rattle.op_model.specs.Rules.{answer_under}
use Rattle.text_buffer.proofs.document.Document.judge.Goals as goal

pub returns : goal.returns
returns c = c.judge.ensures ∙ ap (λ (h : History). answer_under c.args.endings h c.args.waiting.now c.args.op.now) c.self.view_is
