-- What a method of a session that is worked reports and leaves, by the parts of the session.
use Rattle.std.proofs.Common.{◌≡◌, ℕ, ◌++◌, List, OnOk, Result}
use Rattle.session_more.specs.Reports.{more_report_text}
use Rattle.session_more.specs.declared.session.MoreLine.{MoreLine}
use Rattle.session_work.specs.MoreWork.{MoreState, more_events, more_step}
use Rattle.session_work.specs.Working.{ProgressState, more_state_of}

-- new is the report after line l, q being the session before it
abbrev pub IsReportAfter : List ℕ → MoreLine → ProgressState → Type 0
IsReportAfter new l q = new ≡ q.plain.report.items ++ more_report_text (more_events l (more_state_of q))

-- new is the session after it
abbrev pub IsStateAfter : MoreState → MoreLine → ProgressState → Type 0
IsStateAfter new l q = new ≡ more_step l (more_state_of q)

-- so it is where a call returned `Ok`
abbrev pub Reports : {T E : Type 0} → Result T E → List ℕ → MoreLine → ProgressState → Type 0
Reports x new l q = OnOk x (IsReportAfter new l q)

abbrev pub Leaves : {T E : Type 0} → Result T E → MoreState → MoreLine → ProgressState → Type 0
Leaves x new l q = OnOk x (IsStateAfter new l q)

-- ---- the line is about a replica that is not there

-- nothing is reported
abbrev pub Unreported : MoreLine → ProgressState → Type 0
Unreported l q = IsReportAfter q.plain.report.items l q

-- nothing is changed
abbrev pub Unchanged : MoreLine → ProgressState → Type 0
Unchanged l q = IsStateAfter (more_state_of q) l q
