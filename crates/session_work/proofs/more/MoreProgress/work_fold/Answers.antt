use Rattle.std.proofs.Common.{◌≡◌, None, Some, subst}
use Rattle.std.proofs.lemmas.Result.{on_ok_weaker}
use Rattle.session_folds.specs.Answers.{after_fold}
use Rattle.session_folds.specs.Lines.{after_fold_line, fold_report}
use Rattle.session_more.specs.declared.session.MoreLine.TheVariants as line
use Rattle.session_work.specs.MoreInside.{progress_of}
use Rattle.session_work.specs.Work.{history_at}
use Rattle.session_work.specs.Working.{more_state_of}
use Rattle.session_work.proofs.Behind.{behind_at}
use Rattle.session_work.proofs.Folding.{behind_failed, behind_worked, folded_at, folded_nowhere, fold_stays}
use Rattle.session_work.proofs.Selecting.{heard, unheard}
use Rattle.session_work.proofs.Steps.{on_any}
use Rattle.session_work.proofs.Worked.{Leaves, Reports, Unchanged, Unreported}
use Rattle.session_work.proofs.more.MoreProgress.work_fold.Goals as goal

pub returns-in_default-clause-report : goal.returns-in_default-clause-report
returns-in_default-clause-report c =
    let p = progress_of c.self.inside in
    let e : None ≡ history_at c.args.id (more_state_of p).plain = cc (c.in_default.is, c.in_ok-snapshot.ensures) in
    subst (Unreported (line.Fold c.args.id c.args.start c.args.end)) c.self.view_is (unheard (λ h. fold_report c.args.id c.args.start c.args.end h p.folds) (history_at c.args.id (more_state_of p).plain) p.plain.report.items e)

pub returns-in_default-clause-state : goal.returns-in_default-clause-state
returns-in_default-clause-state c =
    let p = progress_of c.self.inside in
    let e : None ≡ history_at c.args.id (more_state_of p).plain = cc (c.in_default.is, c.in_ok-snapshot.ensures) in
    subst (Unchanged (line.Fold c.args.id c.args.start c.args.end)) c.self.view_is (folded_nowhere (more_state_of p) c.args.id (after_fold_line c.args.id c.args.start c.args.end) e)

pub fold-requires : goal.fold-requires
fold-requires c =
    let p = progress_of c.self.inside in
    let e : Some c.in-Some.snapshot ≡ history_at c.args.id (more_state_of p).plain = cc (c.in-Some.is, c.in_ok-snapshot.ensures) in
    behind_at c.args.id p.plain.exchange.buffers p.folds c.in-Some.snapshot e c.self.invariant.folds

pub returns-clause-report : goal.returns-clause-report
returns-clause-report c =
    let p = progress_of c.self.inside in
    let e : Some c.in-Some.snapshot ≡ history_at c.args.id (more_state_of p).plain = cc (c.in-Some.is, c.in_ok-snapshot.ensures) in
    subst (Reports c.write_event.result c.write_event.new.out.items (line.Fold c.args.id c.args.start c.args.end)) c.self.view_is
    (on_ok_weaker c.write_event.result
    (λ n. heard (λ h. fold_report c.args.id c.args.start c.args.end h p.folds) (history_at c.args.id (more_state_of p).plain) c.in-Some.snapshot c.in_ok-report.report _ _ e c.in_ok-report.ensures.report n) c.write_event.ensures)

pub returns-clause-state : goal.returns-clause-state
returns-clause-state c =
    let p = progress_of c.self.inside in
    let e : Some c.in-Some.snapshot ≡ history_at c.args.id (more_state_of p).plain = cc (c.in-Some.is, c.in_ok-snapshot.ensures) in
    subst (Leaves c.write_event.result (record (more_state_of p) { folds = c.fold.new.self }) (line.Fold c.args.id c.args.start c.args.end)) c.self.view_is
    (on_any c.write_event.result _ (folded_at (more_state_of p) c.args.id (after_fold_line c.args.id c.args.start c.args.end) c.in-Some.snapshot _ e c.in_ok-report.ensures.state))

pub invariant_of-self : goal.invariant_of-self
invariant_of-self c =
    let p = progress_of c.self.inside in
    let e : Some c.in-Some.snapshot ≡ history_at c.args.id (more_state_of p).plain = cc (c.in-Some.is, c.in_ok-snapshot.ensures) in
    record {
      few = c.self.invariant.few;
      folds = behind_failed c.args.id c.in-Some.snapshot p.plain.exchange.buffers p.folds c.fold.new.self e c.self.invariant.folds c.in_err-report.ensures.err;
      excerpts = c.self.invariant.excerpts;
    }

pub invariant_of-self-2 : goal.invariant_of-self-2
invariant_of-self-2 c =
    let p = progress_of c.self.inside in
    let e : Some c.in-Some.snapshot ≡ history_at c.args.id (more_state_of p).plain = cc (c.in-Some.is, c.in_ok-snapshot.ensures) in
    record {
      few = c.self.invariant.few;
      folds = behind_worked c.args.id c.in-Some.snapshot (after_fold c.args.start c.args.end) (fold_stays c.args.start c.args.end) p.plain.exchange.buffers p.folds c.fold.new.self e c.self.invariant.folds c.in_ok-report.ensures.state;
      excerpts = c.self.invariant.excerpts;
    }
