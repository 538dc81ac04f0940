use Rattle.std.proofs.Common.{[], ◌∷◌, sym, ap, ◌∙◌}
use Rattle.std.specs.Option.{option_copied}
use Rattle.text_buffer.specs.Buffer.{BufferState}
use Rattle.session_work.specs.Work.{text_report}
use Rattle.session_work.proofs.Steps.{none_reported, one_reported}
use Rattle.session_work.proofs.replay.Progress.work_text.Goals as goal

pub returns-in_default-clause-report : goal.returns-in_default-clause-report
returns-in_default-clause-report c = none_reported _ _ _ c.in_default.ensures

pub returns-clause-report : goal.returns-clause-report
returns-clause-report c =
    one_reported (λ (b : BufferState). text_report b ∷ []) _ c.in-Some.replica.now _ _ (ap option_copied (sym c.in-Some.is) ∙ c.find.ensures)
    c.in_ok-write_shown.ensures
