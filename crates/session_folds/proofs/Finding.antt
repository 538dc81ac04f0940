-- The folds of a replica that are found by its id, and what is done at them.
use Rattle.std.proofs.Common.{◌≡◌, ℕ, suc, ◌+◌, ◌<◌, ◌≤◌, Bool, true, false, not, cond, ◌==◌, nat_lt, List, [], ◌∷◌, length, get_or, set, None, Some, refl, sym, ap, subst, ◌∙◌, arith}
use Rattle.std.specs.List.{position, position_or_len}
use Rattle.std.proofs.lemmas.Bool.{ltb-true, ltb-false}
use Rattle.std.proofs.lemmas.Option.{cond_some}
use Rattle.session_folds.specs.State.{ReplicaFolds, folds_of, with_folds}

-- whether folds are those of replica r
abbrev pub is_own : ℕ → ReplicaFolds → Bool
is_own r s = s.replica == r

at_none : (b : Bool) (k : ℕ) → None ≡ cond b (Some k) None → b ≡ false
at_none true k e = cc
at_none false k e = refl

-- ---- the first of a list that passes a test

module _ (r : ℕ) (f : ReplicaFolds → ReplicaFolds) where
  abbrev place : List ReplicaFolds → ℕ
  place ss = position_or_len (is_own r) ss

  -- what a place says of the folds, where it lies among them
  abbrev Says : ReplicaFolds → ℕ → List ReplicaFolds → Type 0
  Says d n ss = (folds_of r ss ≡ Some (get_or ss n d)) × (with_folds r f ss ≡ set ss n (f (get_or ss n d)))

  more : (d s : ReplicaFolds) (ss : List ReplicaFolds) (m : ℕ) (t : Bool) → (m < length ss → Says d m ss) → cond (not t) (1 + m) 0 < suc (length ss)
      → (cond t (Some s) (folds_of r ss) ≡ Some (get_or (s ∷ ss) (cond (not t) (1 + m) 0) d))
      × (cond t (f s ∷ ss) (s ∷ with_folds r f ss) ≡ set (s ∷ ss) (cond (not t) (1 + m) 0) (f (get_or (s ∷ ss) (cond (not t) (1 + m) 0) d)))
  more d s ss m true h l = (refl, refl)
  more d s ss m false h l =
      let e : suc m ≡ 1 + m = omega arith in
      let t = h (omega arith) in
      subst (λ (k : ℕ). (folds_of r ss ≡ Some (get_or (s ∷ ss) k d)) × (s ∷ with_folds r f ss ≡ set (s ∷ ss) k (f (get_or (s ∷ ss) k d)))) e (t.0, ap (λ l. s ∷ l) t.1)

  at_place : (d : ReplicaFolds) (ss : List ReplicaFolds) → place ss < length ss → Says d (place ss) ss
  at_place d [] l = absurd (omega arith)
  at_place d (s ∷ ss) l = more d s ss (place ss) (is_own r s) (at_place d ss) l

  no_more : (s : ReplicaFolds) (ss : List ReplicaFolds) (m : ℕ) (t : Bool) → (length ss ≤ m → (folds_of r ss ≡ None) × (with_folds r f ss ≡ ss)) → suc (length ss) ≤ cond (not t) (1 + m) 0
      → (cond t (Some s) (folds_of r ss) ≡ None) × (cond t (f s ∷ ss) (s ∷ with_folds r f ss) ≡ s ∷ ss)
  no_more s ss m true h l = absurd (omega arith)
  no_more s ss m false h l = let t = h (omega arith) in (t.0, ap (λ l. s ∷ l) t.1)

  at_no_place : (ss : List ReplicaFolds) → length ss ≤ place ss → (folds_of r ss ≡ None) × (with_folds r f ss ≡ ss)
  at_no_place [] l = (refl, refl)
  at_no_place (s ∷ ss) l = no_more s ss (place ss) (is_own r s) (at_no_place ss) l

  found : (ss : List ReplicaFolds) (i : ℕ) (d : ReplicaFolds) → Some i ≡ position (is_own r) ss → Says d i ss
  found ss i d e =
      let p = cond_some (nat_lt (place ss) (length ss)) (place ss) i (sym e) in
      subst (λ (k : ℕ). Says d k ss) p.1 (at_place d ss (ltb-true (place ss) (length ss) p.0))

  not_found : (ss : List ReplicaFolds) → None ≡ position (is_own r) ss → (folds_of r ss ≡ None) × (with_folds r f ss ≡ ss)
  not_found ss e = at_no_place ss (ltb-false (place ss) (length ss) (at_none (nat_lt (place ss) (length ss)) (place ss) e))

-- ---- where they are

module _ (r : ℕ) (ss : List ReplicaFolds) (i : ℕ) (s : ReplicaFolds) (at : Some i ≡ position (is_own r) ss) (is : s ≡ get_or ss i s) where
  pub there : Some s ≡ folds_of r ss
  there = ap Some is ∙ sym (found r (λ (x : ReplicaFolds). x) ss i s at).0

  pub put : (f : ReplicaFolds → ReplicaFolds) (n : ReplicaFolds) → n ≡ f s → set ss i n ≡ with_folds r f ss
  put f n e = ap (set ss i) (e ∙ ap f is) ∙ sym (found r f ss i s at).1

-- ---- where they are not

module _ (r : ℕ) (ss : List ReplicaFolds) (at : None ≡ position (is_own r) ss) where
  pub nowhere : None ≡ folds_of r ss
  nowhere = sym (not_found r (λ (x : ReplicaFolds). x) ss at).0

  pub unchanged : (f : ReplicaFolds → ReplicaFolds) → ss ≡ with_folds r f ss
  unchanged f = sym (not_found r f ss at).1
