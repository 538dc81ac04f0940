use Rattle.std.proofs.Common.{◌∙◌, sym, ap}
use Rattle.op_model.specs.Operations.{text_total}
use Rattle.text_buffer.proofs.LineEndings.{rewritten_pieces, same_pieces}
use Rattle.text_buffer.proofs.entering.entered_total.Goals as goal

pub returns-then-rewrites : goal.returns-then-rewrites
returns-then-rewrites c = c.lf_total.ensures ∙ ap text_total (sym (rewritten_pieces c.args.endings c.args.pieces.now (sym c.requires ∙ c.if-rewrites.true)))

pub returns : goal.returns
returns c = c.text_total.ensures.total ∙ ap text_total (sym (same_pieces c.args.endings c.args.pieces.now (sym c.requires ∙ c.if-rewrites.false)))
