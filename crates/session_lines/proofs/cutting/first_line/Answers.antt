use Rattle.std.proofs.Common.{◌+◌}
use Rattle.std.proofs.lemmas.List.{take_rest}
use Rattle.session_lines.proofs.Cut.{cut_here, whole_line}
use Rattle.session_lines.proofs.cutting.first_line.Goals as goal

pub returns-then-end-text-clause-cut : goal.returns-then-end-text-clause-cut
returns-then-end-text-clause-cut c = cut_here _ _ _ c.line_len-end.ensures c.requires (take_rest c.args.text.now (c.line_len-end.result + 1))

pub returns-else-end-text-clause-cut : goal.returns-else-end-text-clause-cut
returns-else-end-text-clause-cut c = whole_line _ _ c.line_len-end.ensures c.requires c.if-end-text.false
