-- Where a seek by the cells that a version sees stops.
use Rattle.std.proofs.Common.{◌≡◌, ℕ, suc, ◌+◌, ◌<◌, ◌≤◌, List, [], ◌∷◌, ◌++◌, take, drop, refl, sym, ap, ◌∙◌, arith, subst, cond, true, false, Bool, None, Some, inl, inr, ltb}
use Rattle.std.specs.List.{slice_get}
use Rattle.std.proofs.lemmas.Bool.{cases_Bool, ltb-true, ltb-false, le-ltb}
use Rattle.lamport_clock.specs.Versions.{Entries, sees}
use Rattle.tree_cursor.specs.Places.{seek_count}
use Rattle.tree_cursor.specs.Counting.{number_passes}
use Rattle.tree_cursor.specs.declared.traits.Bias.TheVariants.{Right}
use Rattle.fragments.specs.declared.fragment.Fragment.{Fragment}
use Rattle.fragments.specs.Summaries.{summary_of}
use Rattle.fragments.specs.SeenPlaces.{At, move_at}
use Rattle.remote_edit.specs.Walk.{seen_bytes}
use Rattle.remote_edit.proofs.Passing.{own, seen_cons, seen_own, unseen_own}
use Rattle.remote_edit.proofs.Seeking.{move_one}

module _ (v : Entries) (goal : ℕ) where
  abbrev pub sought : ℕ → List Fragment → ℕ
  sought n fs = seek_count move_at summary_of (λ p. number_passes goal p.1 Right) (v, n) fs

  sought_cons : (n : ℕ) (f : Fragment) (fs : List Fragment) → sought n (f ∷ fs) ≡ cond (ltb goal (n + own v f)) 0 (1 + sought (n + own v f) fs)
  sought_cons n f fs = ap (λ (p : At). cond (ltb goal p.1) 0 (1 + seek_count move_at summary_of (λ p. number_passes goal p.1 Right) p fs)) (move_one v n f)

  sought_here : (n : ℕ) (f : Fragment) (fs : List Fragment) → ltb goal (n + own v f) ≡ true → sought n (f ∷ fs) ≡ 0
  sought_here n f fs e = sought_cons n f fs ∙ ap (λ (b : Bool). cond b 0 (1 + sought (n + own v f) fs)) e

  sought_on : (n : ℕ) (f : Fragment) (fs : List Fragment) → ltb goal (n + own v f) ≡ false → sought n (f ∷ fs) ≡ suc (sought (n + own v f) fs)
  sought_on n f fs e = sought_cons n f fs ∙ ap (λ (b : Bool). cond b 0 (1 + sought (n + own v f) fs)) e ∙ omega arith

  -- from n cells on, the goal lies in f, which the version sees and before which k fragments of fs are
  pub record Found (n : ℕ) (fs : List Fragment) (f : Fragment) (k : ℕ) : Type 0 where
    pub parts : fs ≡ take k fs ++ f ∷ drop (suc k) fs
    pub seen : sees v f.stamp ≡ true
    pub low : n + seen_bytes v (take k fs) ≤ goal
    pub high : goal < n + seen_bytes v (take k fs) + f.len

  found_here : (n : ℕ) (f g : Fragment) (fs : List Fragment) → n ≤ goal → ltb goal (n + own v f) ≡ true → f ≡ g → Found n (f ∷ fs) g 0
  found_here n f g fs l e i = elim (cases_Bool (sees v f.stamp)) [
    | inl s ↦ (let o = seen_own v f s in let t = ltb-true goal (n + own v f) e in subst (λ (x : Fragment). Found n (f ∷ fs) x 0) i (record { parts = refl; seen = s; low = omega (arith, l); high = omega (arith, o, t) }))
    | inr s ↦ (let o = unseen_own v f s in let t = ltb-true goal (n + own v f) e in absurd (omega (arith, o, t, l)))
  ]

  found_on : (n k : ℕ) (f g : Fragment) (fs : List Fragment) → Found (n + own v f) fs g k → Found n (f ∷ fs) g (suc k)
  found_on n k f g fs w =
      let a = seen_cons v f (take k fs) in
      let l = w.low in
      let h = w.high in
      record { parts = ap (λ (z : List Fragment). f ∷ z) w.parts; seen = w.seen; low = omega (arith, a, l); high = omega (arith, a, h) }

  pub found : (n : ℕ) (fs : List Fragment) (g : Fragment) → n ≤ goal → slice_get fs (sought n fs) ≡ Some g → Found n fs g (sought n fs)
  found n [] g l e = cc
  found n (f ∷ fs) g l e = elim (cases_Bool (ltb goal (n + own v f))) [
    | inl t ↦ (let k = sought_here n f fs t in
        let i : Some f ≡ Some g = sym (ap (slice_get (f ∷ fs)) k) ∙ e in
        let j : f ≡ g = cc in
        subst (Found n (f ∷ fs) g) (sym k) (found_here n f g fs l t j))
    | inr t ↦ (let k = sought_on n f fs t in
        let i : slice_get fs (sought (n + own v f) fs) ≡ Some g = sym (ap (slice_get (f ∷ fs)) k) ∙ e in
        subst (Found n (f ∷ fs) g) (sym k) (found_on n (sought (n + own v f) fs) f g fs (found (n + own v f) fs g (ltb-false goal (n + own v f) t) i)))
  ]

  -- all are gone over
  pub record Ended (n : ℕ) (fs : List Fragment) (k : ℕ) : Type 0 where
    pub all : take k fs ≡ fs
    pub low : n + seen_bytes v fs ≤ goal

  pub ended : (n : ℕ) (fs : List Fragment) → n ≤ goal → slice_get fs (sought n fs) ≡ None → Ended n fs (sought n fs)
  ended n [] l e = record { all = refl; low = omega (arith, l) }
  ended n (f ∷ fs) l e = elim (cases_Bool (ltb goal (n + own v f))) [
    | inl t ↦ (let i : Some f ≡ None = sym (ap (slice_get (f ∷ fs)) (sought_here n f fs t)) ∙ e in cc)
    | inr t ↦ (let k = sought_on n f fs t in
        let i : slice_get fs (sought (n + own v f) fs) ≡ None = sym (ap (slice_get (f ∷ fs)) k) ∙ e in
        let w = ended (n + own v f) fs (ltb-false goal (n + own v f) t) i in
        let a = seen_cons v f fs in
        let b = w.low in
        subst (Ended n (f ∷ fs)) (sym k) (record { all = ap (λ (z : List Fragment). f ∷ z) w.all; low = omega (arith, a, b) }))
  ]

  -- no seek stops at a goal past all
  pub all_over : (n : ℕ) (fs : List Fragment) → n + seen_bytes v fs ≤ goal → take (sought n fs) fs ≡ fs
  all_over n [] h = refl
  all_over n (f ∷ fs) h =
      let a = seen_cons v f fs in
      let t : ltb goal (n + own v f) ≡ false = le-ltb goal (n + own v f) (omega (arith, a, h)) in
      ap (λ (k : ℕ). take k (f ∷ fs)) (sought_on n f fs t) ∙ ap (λ (z : List Fragment). f ∷ z) (all_over (n + own v f) fs (omega (arith, a, h)))
