use Rattle.std.proofs.Common.{◌≡◌, List, None, Some, Result, Ok, Err, OnErr, refl, ap, subst, sym, ◌∙◌}
use Rattle.std.specs.List.{position}
use Rattle.session_more.specs.declared.report.MoreReport.TheVariants as report
use Rattle.session_folds.specs.Answers.{display_answer}
use Rattle.session_folds.specs.Lines.{after_sync, display_report}
use Rattle.session_folds.specs.State.{GoesOnAt, ReplicaFolds, synced}
use Rattle.session_folds.proofs.Finding.{is_own}
use Rattle.session_folds.proofs.Reported.{called, goes-on, kept, reported_always, uncalled, unreported_always}
use Rattle.session_folds.proofs.session.SessionFolds.display.Goals as goal

-- the field of what is left alone
pub same-self : goal.same-self
same-self c = refl

pub display-requires : goal.display-requires
display-requires c =
    let v : List ReplicaFolds = c.self.inside.replicas.items in
    let at : Some c.in-Some.index ≡ position (is_own c.args.id) v = c.in-Some.ensures ∙ ap (position (is_own c.args.id)) c.deref.ensures.value in
    goes-on c.args.id v c.in-Some.index c.index_mut.result.now at c.index_mut.ensures.value c.args.snapshot (subst (λ (w : List ReplicaFolds). GoesOnAt c.args.id c.args.snapshot w) (sym c.self.view_is) c.requires)

pub returns-in_default-clause-report : goal.returns-in_default-clause-report
returns-in_default-clause-report c =
    let v : List ReplicaFolds = c.self.inside.replicas.items in
    let at : None ≡ position (is_own c.args.id) v = c.in_default.ensures ∙ ap (position (is_own c.args.id)) c.deref.ensures.value in
    subst (λ (w : List ReplicaFolds). None ≡ display_report c.args.id c.args.offset c.args.snapshot w) c.self.view_is (unreported_always c.args.id v at (λ f. report.Display c.args.offset c.args.id (display_answer (synced c.args.snapshot f) c.args.offset)))

pub returns-in_default-clause-state : goal.returns-in_default-clause-state
returns-in_default-clause-state c =
    let v : List ReplicaFolds = c.self.inside.replicas.items in
    let at : None ≡ position (is_own c.args.id) v = c.in_default.ensures ∙ ap (position (is_own c.args.id)) c.deref.ensures.value in
    subst (λ (w : List ReplicaFolds). w ≡ after_sync c.args.id c.args.snapshot w) c.self.view_is (uncalled c.args.id v at c.args.snapshot (λ m. m))

pub returns-clause-report : goal.returns-clause-report
returns-clause-report c =
    let v : List ReplicaFolds = c.self.inside.replicas.items in
    let at : Some c.in-Some.index ≡ position (is_own c.args.id) v = c.in-Some.ensures ∙ ap (position (is_own c.args.id)) c.deref.ensures.value in
    subst (λ (w : List ReplicaFolds). Some (report.Display c.args.offset c.args.id c.in_ok-answer.answer) ≡ display_report c.args.id c.args.offset c.args.snapshot w) c.self.view_is
    (reported_always c.args.id v c.in-Some.index c.index_mut.result.now at c.index_mut.ensures.value c.args.snapshot (report.Display c.args.offset c.args.id) (λ f. display_answer (synced c.args.snapshot f) c.args.offset) c.in_ok-answer.answer c.in_ok-answer.ensures.answer)

pub returns-clause-state : goal.returns-clause-state
returns-clause-state c =
    let v : List ReplicaFolds = c.self.inside.replicas.items in
    let at : Some c.in-Some.index ≡ position (is_own c.args.id) v = c.in-Some.ensures ∙ ap (position (is_own c.args.id)) c.deref.ensures.value in
    called c.args.id v c.in-Some.index c.index_mut.result.now at c.index_mut.ensures.value c.args.snapshot (λ m. m) c.display.new.self c.in_ok-answer.ensures.after ∙ ap (after_sync c.args.id c.args.snapshot) c.self.view_is

-- what holds anyway holds after an error
on_err : {T E : Type 0} (x : Result T E) (P : Type 0) → P → OnErr x P
on_err (Ok v) P p = tt
on_err (Err e) P p = p

pub returns-in_err-answer-clause-err : goal.returns-in_err-answer-clause-err
returns-in_err-answer-clause-err c =
    let v : List ReplicaFolds = c.self.inside.replicas.items in
    let at : Some c.in-Some.index ≡ position (is_own c.args.id) v = c.in-Some.ensures ∙ ap (position (is_own c.args.id)) c.deref.ensures.value in
    on_err c.from_residual.result _ (kept c.args.id v c.in-Some.index c.index_mut.result.now at c.index_mut.ensures.value c.args.snapshot c.display.new.self c.in_err-answer.ensures.err ∙ c.self.view_is)
