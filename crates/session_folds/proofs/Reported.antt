-- What the lines report and do, at the replica that is found by its id.
use Rattle.std.proofs.Common.{◌≡◌, ◌⊎◌, inl, inr, ℕ, List, get_or, set, Option, None, Some, option_and_then, option_map, IfSome, subst, sym, ap, ◌∙◌}
use Rattle.std.specs.List.{position}
use Rattle.std.proofs.lemmas.List.{set-get_or}
use Rattle.op_model.specs.Histories.{History}
use Rattle.fold_map.specs.Folds.{FoldState}
use Rattle.session_more.specs.declared.report.MoreReport.{MoreReport}
use Rattle.session_folds.specs.Lines.{after_call, after_sync}
use Rattle.session_folds.specs.State.{GoesOn, GoesOnAt, ReplicaFolds, folds_of, synced, with_map}
use Rattle.session_folds.proofs.Finding.{is_own, nowhere, put, there, unchanged}

-- ---- replica r is at place i, and f is what it has

module _ (r : ℕ) (fs : List ReplicaFolds) (i : ℕ) (f : ReplicaFolds) (at : Some i ≡ position (is_own r) fs) (is : f ≡ get_or fs i f) (h : History) where
  pub goes-on : GoesOnAt r h fs → GoesOn h f.shown
  goes-on g = subst (λ (o : Option ReplicaFolds). IfSome o (λ x. GoesOn h x.shown)) (sym (there r fs i f at is)) g

  -- b is reported of f
  pub reported : {B : Type 0} (line : B → MoreReport) (say : ReplicaFolds → Option B) (b : B) → say f ≡ Some b → Some (line b) ≡ option_map line (option_and_then say (folds_of r fs))
  reported line say b says = ap (option_map line) (sym says ∙ ap (option_and_then say) (there r fs i f at is))

  pub reported_always : {B : Type 0} (line : B → MoreReport) (say : ReplicaFolds → B) (b : B) → b ≡ say f → Some (line b) ≡ option_map (λ x. line (say x)) (folds_of r fs)
  reported_always line say b says = ap (λ (y : _). Some (line y)) says ∙ ap (option_map (λ x. line (say x))) (there r fs i f at is)

  pub called : (g : FoldState → FoldState) (n : ReplicaFolds) → n ≡ with_map (g (synced h f)) f → set fs i n ≡ after_call r h g fs
  called g n e = put r fs i f at is (λ (x : ReplicaFolds). with_map (g (synced h x)) x) n e

  pub kept : (n : ReplicaFolds) → n ≡ f → set fs i n ≡ fs
  kept n e = ap (set fs i) (e ∙ is) ∙ set-get_or fs i f

  pub failed : (n : ReplicaFolds) → (n ≡ f) ⊎ (n ≡ with_map (synced h f) f) → (set fs i n ≡ fs) ⊎ (set fs i n ≡ after_sync r h fs)
  failed n e = elim e [ inl k ↦ inl (kept n k) | inr k ↦ inr (called (λ m. m) n k) ]

-- ---- it is not there

module _ (r : ℕ) (fs : List ReplicaFolds) (at : None ≡ position (is_own r) fs) where
  pub unreported : {B : Type 0} (line : B → MoreReport) (say : ReplicaFolds → Option B) → None ≡ option_map line (option_and_then say (folds_of r fs))
  unreported line say = ap (λ (o : Option ReplicaFolds). option_map line (option_and_then say o)) (nowhere r fs at)

  pub unreported_always : (say : ReplicaFolds → MoreReport) → None ≡ option_map say (folds_of r fs)
  unreported_always say = ap (option_map say) (nowhere r fs at)

  pub uncalled : (h : History) (g : FoldState → FoldState) → fs ≡ after_call r h g fs
  uncalled h g = unchanged r fs at (λ (x : ReplicaFolds). with_map (g (synced h x)) x)
