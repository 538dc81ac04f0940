use Rattle.std.proofs.Common.{◌≡◌, None, Some, ap, subst, ◌∙◌}
use Rattle.std.proofs.lemmas.Result.{on_ok_weaker}
use Rattle.session_selections.specs.Lines.{after_select, select_report}
use Rattle.session_more.specs.declared.session.MoreLine.TheVariants as line
use Rattle.session_work.specs.MoreInside.{progress_of}
use Rattle.session_work.specs.Work.{history_at}
use Rattle.session_work.specs.Working.{more_state_of}
use Rattle.session_work.proofs.Steps.{on_any}
use Rattle.session_work.proofs.Selecting.{heard, selected_at, selected_nowhere, unheard}
use Rattle.session_work.proofs.Worked.{Leaves, Reports, Unchanged, Unreported}
use Rattle.session_work.proofs.more.MoreProgress.work_select.Goals as goal

pub returns-in_default-clause-report : goal.returns-in_default-clause-report
returns-in_default-clause-report c =
    let p = progress_of c.self.inside in
    let s = more_state_of p in
    let e : None ≡ history_at c.args.id s.plain = cc (c.in_default.is, c.in_ok-snapshot.ensures) in
    subst (Unreported (line.Select c.args.id c.args.name c.args.ranges.now)) c.self.view_is
    (unheard (λ h. select_report c.args.id c.args.name c.args.ranges.now h s.selections) (history_at c.args.id s.plain) p.plain.report.items e)

pub returns-in_default-clause-state : goal.returns-in_default-clause-state
returns-in_default-clause-state c =
    let p = progress_of c.self.inside in
    let s = more_state_of p in
    let e : None ≡ history_at c.args.id s.plain = cc (c.in_default.is, c.in_ok-snapshot.ensures) in
    subst (Unchanged (line.Select c.args.id c.args.name c.args.ranges.now)) c.self.view_is
    (selected_nowhere s (λ h. after_select c.args.id c.args.name c.args.ranges.now h s.selections) (history_at c.args.id s.plain) e)

pub returns-clause-report : goal.returns-clause-report
returns-clause-report c =
    let p = progress_of c.self.inside in
    let s = more_state_of p in
    let h = c.in-Some.snapshot in
    let e : Some h ≡ history_at c.args.id s.plain = cc (c.in-Some.is, c.in_ok-snapshot.ensures) in
    let made = c.in_ok-report.ensures.report ∙ ap (λ rs. select_report c.args.id c.args.name rs h s.selections) c.as_slice.ensures in
    subst (Reports c.write_event.result c.write_event.new.out.items (line.Select c.args.id c.args.name c.args.ranges.now)) c.self.view_is
    (on_ok_weaker c.write_event.result
    (λ n. heard (λ h. select_report c.args.id c.args.name c.args.ranges.now h s.selections) (history_at c.args.id s.plain) h c.in_ok-report.report _ _ e made n) c.write_event.ensures)

pub returns-clause-state : goal.returns-clause-state
returns-clause-state c =
    let p = progress_of c.self.inside in
    let s = more_state_of p in
    let h = c.in-Some.snapshot in
    let e : Some h ≡ history_at c.args.id s.plain = cc (c.in-Some.is, c.in_ok-snapshot.ensures) in
    let after = c.in_ok-report.ensures.state ∙ ap (λ rs. after_select c.args.id c.args.name rs h s.selections) c.as_slice.ensures in
    subst (Leaves c.write_event.result (record s { selections = c.select.new.self }) (line.Select c.args.id c.args.name c.args.ranges.now)) c.self.view_is
    (on_any c.write_event.result _ (selected_at s (λ h. after_select c.args.id c.args.name c.args.ranges.now h s.selections) (history_at c.args.id s.plain) h _ e after))

pub invariant_of-self : goal.invariant_of-self
invariant_of-self c = record { few = c.self.invariant.few; folds = c.self.invariant.folds; excerpts = c.self.invariant.excerpts }
