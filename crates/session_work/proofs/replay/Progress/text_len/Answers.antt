use Rattle.std.proofs.Common.{sym, ap, ◌∙◌}
use Rattle.std.specs.Option.{option_copied}
use Rattle.session_work.specs.Making.{text_len}
use Rattle.session_work.proofs.replay.Progress.text_len.Goals as goal

pub returns-in-Some-clause-len : goal.returns-in-Some-clause-len
returns-in-Some-clause-len c = c.text_len.ensures.len ∙ ap text_len (ap option_copied (sym c.in-Some.is) ∙ c.find.ensures)

pub returns-in-None-clause-len : goal.returns-in-None-clause-len
returns-in-None-clause-len c = ap text_len c.in-None.ensures
