use Rattle.std.proofs.Common.{◌≡◌, ◌⊎◌, List, None, Some, Result, Ok, Err, OnErr, set, refl, ap, subst, sym, ◌∙◌}
use Rattle.std.specs.List.{position}
use Rattle.fold_map.specs.Folds.{shown}
use Rattle.session_more.specs.declared.report.MoreReport.TheVariants as report
use Rattle.session_folds.specs.Lines.{after_sync, folded_report}
use Rattle.session_folds.specs.State.{GoesOnAt, ReplicaFolds, synced}
use Rattle.session_folds.proofs.Finding.{is_own}
use Rattle.session_folds.proofs.Reported.{called, failed, goes-on, reported_always, uncalled, unreported_always}
use Rattle.session_folds.proofs.session.SessionFolds.folded.Goals as goal

-- the field of what is left alone
pub same-self : goal.same-self
same-self c = refl

pub text-requires : goal.text-requires
text-requires c =
    let v : List ReplicaFolds = c.self.inside.replicas.items in
    let at : Some c.in-Some.index ≡ position (is_own c.args.id) v = c.in-Some.ensures ∙ ap (position (is_own c.args.id)) c.deref.ensures.value in
    goes-on c.args.id v c.in-Some.index c.index_mut.result.now at c.index_mut.ensures.value c.args.snapshot (subst (λ (w : List ReplicaFolds). GoesOnAt c.args.id c.args.snapshot w) (sym c.self.view_is) c.requires)

pub returns-in_default-clause-report : goal.returns-in_default-clause-report
returns-in_default-clause-report c =
    let v : List ReplicaFolds = c.self.inside.replicas.items in
    let at : None ≡ position (is_own c.args.id) v = c.in_default.ensures ∙ ap (position (is_own c.args.id)) c.deref.ensures.value in
    subst (λ (w : List ReplicaFolds). None ≡ folded_report c.args.id c.args.snapshot w) c.self.view_is (unreported_always c.args.id v at (λ f. report.Folded c.args.id (shown (synced c.args.snapshot f))))

pub returns-in_default-clause-state : goal.returns-in_default-clause-state
returns-in_default-clause-state c =
    let v : List ReplicaFolds = c.self.inside.replicas.items in
    let at : None ≡ position (is_own c.args.id) v = c.in_default.ensures ∙ ap (position (is_own c.args.id)) c.deref.ensures.value in
    subst (λ (w : List ReplicaFolds). w ≡ after_sync c.args.id c.args.snapshot w) c.self.view_is (uncalled c.args.id v at c.args.snapshot (λ m. m))

pub returns-clause-report : goal.returns-clause-report
returns-clause-report c =
    let v : List ReplicaFolds = c.self.inside.replicas.items in
    let at : Some c.in-Some.index ≡ position (is_own c.args.id) v = c.in-Some.ensures ∙ ap (position (is_own c.args.id)) c.deref.ensures.value in
    subst (λ (w : List ReplicaFolds). Some (report.Folded c.args.id c.in_ok-text.text) ≡ folded_report c.args.id c.args.snapshot w) c.self.view_is
    (reported_always c.args.id v c.in-Some.index c.index_mut.result.now at c.index_mut.ensures.value c.args.snapshot (report.Folded c.args.id) (λ f. shown (synced c.args.snapshot f)) c.in_ok-text.text c.in_ok-text.ensures.text)

pub returns-clause-state : goal.returns-clause-state
returns-clause-state c =
    let v : List ReplicaFolds = c.self.inside.replicas.items in
    let at : Some c.in-Some.index ≡ position (is_own c.args.id) v = c.in-Some.ensures ∙ ap (position (is_own c.args.id)) c.deref.ensures.value in
    called c.args.id v c.in-Some.index c.index_mut.result.now at c.index_mut.ensures.value c.args.snapshot (λ m. m) c.text.new.self c.in_ok-text.ensures.after ∙ ap (after_sync c.args.id c.args.snapshot) c.self.view_is

-- what holds anyway holds after an error
on_err : {T E : Type 0} (x : Result T E) (P : Type 0) → P → OnErr x P
on_err (Ok v) P p = tt
on_err (Err e) P p = p

pub returns-in_err-text-clause-err : goal.returns-in_err-text-clause-err
returns-in_err-text-clause-err c =
    let v : List ReplicaFolds = c.self.inside.replicas.items in
    let at : Some c.in-Some.index ≡ position (is_own c.args.id) v = c.in-Some.ensures ∙ ap (position (is_own c.args.id)) c.deref.ensures.value in
    on_err c.from_residual.result _
    (subst (λ (w : List ReplicaFolds). (set v c.in-Some.index c.text.new.self ≡ w) ⊎ (set v c.in-Some.index c.text.new.self ≡ after_sync c.args.id c.args.snapshot w)) c.self.view_is (failed c.args.id v c.in-Some.index c.index_mut.result.now at c.index_mut.ensures.value c.args.snapshot c.text.new.self c.in_err-text.ensures.err))
