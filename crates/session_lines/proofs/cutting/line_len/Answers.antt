use Rattle.std.proofs.Common.{sym}
use Rattle.std.proofs.lemmas.Option.{cond_some}
use Rattle.session_lines.proofs.Cut.{len_of_none}
use Rattle.session_lines.proofs.cutting.line_len.Goals as goal

pub returns-in-Some : goal.returns-in-Some
returns-in-Some c = sym (cond_some _ _ _ (sym c.in-Some.ensures)).1

pub returns-in-None : goal.returns-in-None
returns-in-None c = len_of_none _ c.in-None.ensures
