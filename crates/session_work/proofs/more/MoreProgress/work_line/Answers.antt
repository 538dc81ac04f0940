use Rattle.std.proofs.Common.{◌++◌, sym, ap, subst, ◌∙◌}
use Rattle.std.proofs.lemmas.Result.{on_ok_weaker}
use Rattle.session_more.specs.Reports.{more_report_text}
use Rattle.session_more.specs.declared.session.MoreLine.{MoreLine}
use Rattle.session_work.specs.MoreInside.{progress_of}
use Rattle.session_work.specs.MoreWork.{MoreState, more_events, more_step}
use Rattle.session_work.specs.Work.{State}
use Rattle.session_work.specs.Working.{more_state_of, state_of}
use Rattle.session_work.proofs.Behind.{behind_later}
use Rattle.session_work.proofs.Excerpting.{go_on_grown, still_few}
use Rattle.session_work.proofs.MoreReports.{plainly_written}
use Rattle.session_work.proofs.Worked.{Leaves, Reports}
use Rattle.session_work.proofs.more.MoreProgress.work_line.Goals as goal

pub returns-in-Plain-clause-report : goal.returns-in-Plain-clause-report
returns-in-Plain-clause-report c =
    let p = progress_of c.self.inside in
    let s = more_state_of p in
    let out = p.plain.report.items in
    subst (Reports c.work_line.result c.work_line.new.self.report.items c.args.line) c.self.view_is
    (on_ok_weaker c.work_line.result
    (λ e. plainly_written _ _ _ e ∙ ap (λ (l : MoreLine). out ++ more_report_text (more_events l s)) (sym c.in-Plain.is)) c.work_line.ensures.report)

pub returns-in-Plain-clause-state : goal.returns-in-Plain-clause-state
returns-in-Plain-clause-state c =
    let s = more_state_of (progress_of c.self.inside) in
    let with_plain : State → MoreState = λ u. record s { plain = u } in
    subst (Leaves c.work_line.result (record s { plain = state_of c.work_line.new.self }) c.args.line) c.self.view_is
    (on_ok_weaker c.work_line.result (λ e. ap with_plain e ∙ ap (λ (l : MoreLine). more_step l s) (sym c.in-Plain.is)) c.work_line.ensures.state)

pub invariant_of-self : goal.invariant_of-self
invariant_of-self c =
    let bs = c.self.inside.plain.exchange.buffers in
    let cs = c.work_line.new.self.exchange.buffers in
    let g = c.work_line.ensures.grows in
    record {
      few = still_few bs cs g c.self.invariant.few;
      folds = behind_later bs cs c.self.inside.folds g c.self.invariant.folds;
      excerpts = go_on_grown bs cs c.self.inside.excerpts g c.self.invariant.excerpts;
    }
