-- A session of the lines of `session_lines` alone reports what these lines report.
use Rattle.std.proofs.Common.{◌≡◌, Ok, false, sym, ap, ◌∙◌}
use Rattle.session_more.specs.Decoding.{plainly}
use Rattle.session_more.specs.Reports.{more_report_text}
use Rattle.session_more.specs.declared.session.MoreSession.{MoreSession}
use Rattle.session_more.proofs.Plain.{old_sessions_stay}
use Rattle.session_work.specs.MoreQueries.{more_report_of}
use Rattle.session_work.specs.Queries.{report_of}
use Rattle.session_work.proofs.MoreReports.{text-plain}
use Rattle.session_work.proofs.Plainly.{report_same}
use Rattle.session_replay.specs.Laws.{OldReportsStay}
use Rattle.session_replay.proofs.Replies.{plain_without_workers}

pub old_reports_stay : OldReportsStay
old_reports_stay input output r s d =
    let p = plain_without_workers input output r in
    let is : Ok p.0 ≡ Ok (plainly s) = sym p.1 ∙ old_sessions_stay false input s d in
    let one : p.0 ≡ plainly s = cc is in
    p.2 ∙ (ap (λ (t : MoreSession). more_report_text (more_report_of t)) one ∙ (ap more_report_text (report_same s) ∙ text-plain (report_of s)))
