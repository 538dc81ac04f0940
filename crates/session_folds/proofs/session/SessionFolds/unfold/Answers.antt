use Rattle.std.proofs.Common.{◌≡◌, ◌⊎◌, List, None, Some, Result, Ok, Err, OnErr, set, refl, ap, subst, sym, ◌∙◌}
use Rattle.std.specs.List.{position}
use Rattle.session_more.specs.declared.report.MoreReport.TheVariants as report
use Rattle.session_folds.specs.Answers.{after_unfold, unfold_answer, unfold_outcome}
use Rattle.session_folds.specs.Lines.{after_sync, after_unfold_line, unfold_report}
use Rattle.session_folds.specs.State.{GoesOnAt, ReplicaFolds, synced}
use Rattle.session_folds.proofs.Finding.{is_own}
use Rattle.session_folds.proofs.Reported.{called, failed, goes-on, reported, uncalled, unreported}
use Rattle.session_folds.proofs.session.SessionFolds.unfold.Goals as goal

-- the field of what is left alone
pub same-self : goal.same-self
same-self c = refl

pub unfold-requires : goal.unfold-requires
unfold-requires c =
    let v : List ReplicaFolds = c.self.inside.replicas.items in
    let at : Some c.in-Some.index ≡ position (is_own c.args.id) v = c.in-Some.ensures ∙ ap (position (is_own c.args.id)) c.deref.ensures.value in
    goes-on c.args.id v c.in-Some.index c.index_mut.result.now at c.index_mut.ensures.value c.args.snapshot (subst (λ (w : List ReplicaFolds). GoesOnAt c.args.id c.args.snapshot w) (sym c.self.view_is) c.requires)

pub returns-in_default-clause-report : goal.returns-in_default-clause-report
returns-in_default-clause-report c =
    let v : List ReplicaFolds = c.self.inside.replicas.items in
    let at : None ≡ position (is_own c.args.id) v = c.in_default.ensures ∙ ap (position (is_own c.args.id)) c.deref.ensures.value in
    subst (λ (w : List ReplicaFolds). None ≡ unfold_report c.args.id c.args.start c.args.end c.args.snapshot w) c.self.view_is (unreported c.args.id v at (report.Unfold c.args.id) (λ f. unfold_answer (unfold_outcome c.args.start c.args.end (synced c.args.snapshot f))))

pub returns-in_default-clause-state : goal.returns-in_default-clause-state
returns-in_default-clause-state c =
    let v : List ReplicaFolds = c.self.inside.replicas.items in
    let at : None ≡ position (is_own c.args.id) v = c.in_default.ensures ∙ ap (position (is_own c.args.id)) c.deref.ensures.value in
    subst (λ (w : List ReplicaFolds). w ≡ after_unfold_line c.args.id c.args.start c.args.end c.args.snapshot w) c.self.view_is (uncalled c.args.id v at c.args.snapshot (after_unfold c.args.start c.args.end))

pub returns-clause-report : goal.returns-clause-report
returns-clause-report c =
    let v : List ReplicaFolds = c.self.inside.replicas.items in
    let at : Some c.in-Some.index ≡ position (is_own c.args.id) v = c.in-Some.ensures ∙ ap (position (is_own c.args.id)) c.deref.ensures.value in
    subst (λ (w : List ReplicaFolds). Some (report.Unfold c.args.id c.in_ok-answer.answer) ≡ unfold_report c.args.id c.args.start c.args.end c.args.snapshot w) c.self.view_is
    (reported c.args.id v c.in-Some.index c.index_mut.result.now at c.index_mut.ensures.value c.args.snapshot (report.Unfold c.args.id) (λ f. unfold_answer (unfold_outcome c.args.start c.args.end (synced c.args.snapshot f))) c.in_ok-answer.answer c.in_ok-answer.ensures.answer)

pub returns-clause-state : goal.returns-clause-state
returns-clause-state c =
    let v : List ReplicaFolds = c.self.inside.replicas.items in
    let at : Some c.in-Some.index ≡ position (is_own c.args.id) v = c.in-Some.ensures ∙ ap (position (is_own c.args.id)) c.deref.ensures.value in
    called c.args.id v c.in-Some.index c.index_mut.result.now at c.index_mut.ensures.value c.args.snapshot (after_unfold c.args.start c.args.end) c.unfold.new.self c.in_ok-answer.ensures.after ∙ ap (after_unfold_line c.args.id c.args.start c.args.end c.args.snapshot) c.self.view_is

-- what holds anyway holds after an error
on_err : {T E : Type 0} (x : Result T E) (P : Type 0) → P → OnErr x P
on_err (Ok v) P p = tt
on_err (Err e) P p = p

pub returns-in_err-answer-clause-err : goal.returns-in_err-answer-clause-err
returns-in_err-answer-clause-err c =
    let v : List ReplicaFolds = c.self.inside.replicas.items in
    let at : Some c.in-Some.index ≡ position (is_own c.args.id) v = c.in-Some.ensures ∙ ap (position (is_own c.args.id)) c.deref.ensures.value in
    on_err c.from_residual.result _
    (subst (λ (w : List ReplicaFolds). (set v c.in-Some.index c.unfold.new.self ≡ w) ⊎ (set v c.in-Some.index c.unfold.new.self ≡ after_sync c.args.id c.args.snapshot w)) c.self.view_is (failed c.args.id v c.in-Some.index c.index_mut.result.now at c.index_mut.ensures.value c.args.snapshot c.unfold.new.self c.in_err-answer.ensures.err))
