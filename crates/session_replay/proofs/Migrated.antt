-- A session that is migrated reports the same.
use Rattle.std.proofs.Common.{◌≡◌, ℕ, List, false, true, Ok, inl, inr, map, sym, ap, ◌∙◌, subst}
use Rattle.session_more.specs.Decoding.{more_session_of_text}
use Rattle.session_more.specs.Reports.{more_report_text}
use Rattle.session_more.specs.declared.report.MoreReport.TheVariants.{Plain}
use Rattle.session_more.specs.declared.session.MoreSession.{MoreSession}
use Rattle.session_more.proofs.Headers.{is_session}
use Rattle.session_work.specs.MoreQueries.{more_report_of}
use Rattle.session_work.proofs.Plainly.{report_same}
use Rattle.session_work.proofs.Twins as twins
use Rattle.session_writer.specs.Migrated.{second}
use Rattle.session_writer.proofs.Decoding.{read_plainly, was_session}
use Rattle.session_replay.specs.Laws.{MigratedReportsAlike}
use Rattle.session_replay.specs.Replay.{Replays}
use Rattle.session_replay.proofs.FirstVersion.{plain_session}
use Rattle.session_replay.proofs.Replies.{plain_with_workers, plain_without_workers}

-- ---- the report

-- a session of version 1 has the lines of `session_lines` alone
from_first : (input : List ℕ) (s : MoreSession) → s.version ≡ 1 → more_session_of_text true input ≡ Ok s → more_report_of (second s) ≡ more_report_of s
from_first input s one e =
    let p = plain_session input s one e in
    ap (λ (t : MoreSession). more_report_of (second t)) p.2 ∙ (report_same (twins.second p.0) ∙ (ap (map Plain) (twins.same_report input p.0 p.1)
    ∙ (sym (report_same p.0) ∙ ap more_report_of (sym p.2))))

same_report : (input : List ℕ) (s : MoreSession) → more_session_of_text true input ≡ Ok s → more_report_of (second s) ≡ more_report_of s
same_report input s e = elim (is_session true input s (was_session input s e).1).version [
  | inl one ↦ from_first input s one e
  | inr two ↦ ap (λ (v : ℕ). more_report_of (record s { version = v })) (sym two)
]

-- what replays one session replays another with the same plain report
alike : (input output report : List ℕ) (s n : MoreSession) → more_session_of_text false input ≡ Ok s → more_session_of_text false output ≡ Ok n → more_report_of s ≡ more_report_of n → Replays input report 0 → Replays output report 0
alike input output report s n d e same r =
    let p = plain_without_workers input report r in
    let is : Ok p.0 ≡ Ok s = sym p.1 ∙ d in
    let one : p.0 ≡ s = cc is in
    let text : report ≡ more_report_text (more_report_of n) = p.2 ∙ (ap (λ (t : MoreSession). more_report_text (more_report_of t)) one ∙ ap more_report_text same) in
    subst (λ (t : List ℕ). Replays output t 0) (sym text) (plain_with_workers output n 0 e)

pub migrated_reports_alike : MigratedReportsAlike
migrated_reports_alike input output report m =
    let s : MoreSession = m.0 in
    let d : more_session_of_text false input ≡ Ok s = read_plainly input s m.1 in
    let same : more_report_of (second s) ≡ more_report_of s = same_report input s m.1 in
    (alike input output report s (second s) d m.2.session (sym same), alike output input report (second s) s m.2.session d same)
