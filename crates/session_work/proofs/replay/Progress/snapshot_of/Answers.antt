use Rattle.std.proofs.Common.{sym, ap, ◌∙◌, Some}
use Rattle.std.specs.Option.{option_copied, option_map}
use Rattle.session_work.proofs.QueryLines.{history}
use Rattle.session_work.proofs.replay.Progress.snapshot_of.Goals as goal

pub returns-in_default : goal.returns-in_default
returns-in_default c = ap (option_map history) c.in_default.ensures

pub returns : goal.returns
returns c = ap Some c.in_ok-snapshot.ensures ∙ ap (option_map history) (ap option_copied (sym c.in-Some.is) ∙ c.find.ensures)
