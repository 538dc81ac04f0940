use Rattle.std.proofs.Common.{subst}
use Rattle.std.proofs.lemmas.Result.{on_ok_weaker}
use Rattle.session_more.specs.declared.session.MoreLine.TheVariants as line
use Rattle.session_work.specs.MoreInside.{progress_of}
use Rattle.session_work.specs.Working.{more_state_of}
use Rattle.session_work.proofs.Steps.{on_any}
use Rattle.session_work.proofs.Selecting.{changed, returned}
use Rattle.session_work.proofs.Worked.{Leaves, Reports}
use Rattle.session_work.proofs.more.MoreProgress.work_share.Goals as goal

pub returns-clause-report : goal.returns-clause-report
returns-clause-report c =
    subst (Reports c.write_event.result c.write_event.new.out.items (line.Share c.args.id c.args.name)) c.self.view_is
    (on_ok_weaker c.write_event.result (λ n. returned _ _ _ _ c.in_ok-report.ensures.report n) c.write_event.ensures)

pub returns-clause-state : goal.returns-clause-state
returns-clause-state c =
    let s = more_state_of (progress_of c.self.inside) in
    subst (Leaves c.write_event.result (record s { selections = c.share.new.self }) (line.Share c.args.id c.args.name)) c.self.view_is
    (on_any c.write_event.result _ (changed s _ _ c.in_ok-report.ensures.state))
