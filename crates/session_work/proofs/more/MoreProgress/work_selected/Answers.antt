use Rattle.std.proofs.Common.{◌≡◌, None, Some, refl, subst}
use Rattle.std.proofs.lemmas.Result.{on_ok_weaker}
use Rattle.session_selections.specs.Lines.{selected_report}
use Rattle.session_more.specs.declared.session.MoreLine.TheVariants as line
use Rattle.session_work.specs.MoreInside.{progress_of}
use Rattle.session_work.specs.Work.{history_at}
use Rattle.session_work.specs.Working.{more_state_of}
use Rattle.session_work.proofs.Selecting.{heard, unheard}
use Rattle.session_work.proofs.Worked.{Reports, Unreported}
use Rattle.session_work.proofs.more.MoreProgress.work_selected.Goals as goal

pub returns-in_default-clause-report : goal.returns-in_default-clause-report
returns-in_default-clause-report c =
    let p = progress_of c.self.inside in
    let s = more_state_of p in
    let e : None ≡ history_at c.args.id s.plain = cc (c.in_default.is, c.in_ok-snapshot.ensures) in
    subst (Unreported (line.Selected c.args.id c.args.author)) c.self.view_is
    (unheard (λ h. selected_report c.args.id c.args.author h s.selections) (history_at c.args.id s.plain) p.plain.report.items e)

pub returns-clause-report : goal.returns-clause-report
returns-clause-report c =
    let p = progress_of c.self.inside in
    let s = more_state_of p in
    let h = c.in-Some.snapshot in
    let e : Some h ≡ history_at c.args.id s.plain = cc (c.in-Some.is, c.in_ok-snapshot.ensures) in
    subst (Reports c.write_event.result c.write_event.new.out.items (line.Selected c.args.id c.args.author)) c.self.view_is
    (on_ok_weaker c.write_event.result
    (λ n. heard (λ h. selected_report c.args.id c.args.author h s.selections) (history_at c.args.id s.plain) h c.in_ok-report.report _ _ e c.in_ok-report.ensures n) c.write_event.ensures)

-- the fields of what is left alone
pub same-self-in_err-report : goal.same-self-in_err-report
same-self-in_err-report c = refl
