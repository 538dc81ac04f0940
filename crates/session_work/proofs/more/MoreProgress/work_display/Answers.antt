use Rattle.std.proofs.Common.{◌≡◌, inl, None, Some, refl, subst}
use Rattle.std.proofs.lemmas.Result.{on_ok_weaker}
use Rattle.fold_map.specs.Folds.{FoldState}
use Rattle.session_folds.specs.Lines.{after_sync, display_report}
use Rattle.session_more.specs.declared.session.MoreLine.TheVariants as line
use Rattle.session_work.specs.MoreInside.{progress_of}
use Rattle.session_work.specs.Work.{history_at}
use Rattle.session_work.specs.Working.{more_state_of}
use Rattle.session_work.proofs.Behind.{behind_at}
use Rattle.session_work.proofs.Folding.{behind_failed, behind_worked, folded_at, folded_nowhere}
use Rattle.session_work.proofs.Selecting.{heard, unheard}
use Rattle.session_work.proofs.Steps.{on_any}
use Rattle.session_work.proofs.Worked.{Leaves, Reports, Unchanged, Unreported}
use Rattle.session_work.proofs.more.MoreProgress.work_display.Goals as goal

pub returns-in_default-clause-report : goal.returns-in_default-clause-report
returns-in_default-clause-report c =
    let p = progress_of c.self.inside in
    let e : None ≡ history_at c.args.id (more_state_of p).plain = cc (c.in_default.is, c.in_ok-snapshot.ensures) in
    subst (Unreported (line.Display c.args.id c.args.offset)) c.self.view_is (unheard (λ h. display_report c.args.id c.args.offset h p.folds) (history_at c.args.id (more_state_of p).plain) p.plain.report.items e)

pub returns-in_default-clause-state : goal.returns-in_default-clause-state
returns-in_default-clause-state c =
    let p = progress_of c.self.inside in
    let e : None ≡ history_at c.args.id (more_state_of p).plain = cc (c.in_default.is, c.in_ok-snapshot.ensures) in
    subst (Unchanged (line.Display c.args.id c.args.offset)) c.self.view_is (folded_nowhere (more_state_of p) c.args.id (after_sync c.args.id) e)

pub display-requires : goal.display-requires
display-requires c =
    let p = progress_of c.self.inside in
    let e : Some c.in-Some.snapshot ≡ history_at c.args.id (more_state_of p).plain = cc (c.in-Some.is, c.in_ok-snapshot.ensures) in
    behind_at c.args.id p.plain.exchange.buffers p.folds c.in-Some.snapshot e c.self.invariant.folds

pub returns-clause-report : goal.returns-clause-report
returns-clause-report c =
    let p = progress_of c.self.inside in
    let e : Some c.in-Some.snapshot ≡ history_at c.args.id (more_state_of p).plain = cc (c.in-Some.is, c.in_ok-snapshot.ensures) in
    subst (Reports c.write_event.result c.write_event.new.out.items (line.Display c.args.id c.args.offset)) c.self.view_is
    (on_ok_weaker c.write_event.result
    (λ n. heard (λ h. display_report c.args.id c.args.offset h p.folds) (history_at c.args.id (more_state_of p).plain) c.in-Some.snapshot c.in_ok-report.report _ _ e c.in_ok-report.ensures.report n) c.write_event.ensures)

pub returns-clause-state : goal.returns-clause-state
returns-clause-state c =
    let p = progress_of c.self.inside in
    let e : Some c.in-Some.snapshot ≡ history_at c.args.id (more_state_of p).plain = cc (c.in-Some.is, c.in_ok-snapshot.ensures) in
    subst (Leaves c.write_event.result (record (more_state_of p) { folds = c.display.new.self }) (line.Display c.args.id c.args.offset)) c.self.view_is
    (on_any c.write_event.result _ (folded_at (more_state_of p) c.args.id (after_sync c.args.id) c.in-Some.snapshot _ e c.in_ok-report.ensures.state))

pub invariant_of-self : goal.invariant_of-self
invariant_of-self c =
    let p = progress_of c.self.inside in
    let e : Some c.in-Some.snapshot ≡ history_at c.args.id (more_state_of p).plain = cc (c.in-Some.is, c.in_ok-snapshot.ensures) in
    record {
      few = c.self.invariant.few;
      folds = behind_failed c.args.id c.in-Some.snapshot p.plain.exchange.buffers p.folds c.display.new.self e c.self.invariant.folds (inl c.in_err-report.ensures.err);
      excerpts = c.self.invariant.excerpts;
    }

pub invariant_of-self-2 : goal.invariant_of-self-2
invariant_of-self-2 c =
    let p = progress_of c.self.inside in
    let e : Some c.in-Some.snapshot ≡ history_at c.args.id (more_state_of p).plain = cc (c.in-Some.is, c.in_ok-snapshot.ensures) in
    record {
      few = c.self.invariant.few;
      folds = behind_worked c.args.id c.in-Some.snapshot (λ (m : FoldState). m) (λ m. refl) p.plain.exchange.buffers p.folds c.display.new.self e c.self.invariant.folds c.in_ok-report.ensures.state;
      excerpts = c.self.invariant.excerpts;
    }
