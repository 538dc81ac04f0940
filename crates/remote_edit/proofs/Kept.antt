-- The items that a filter keeps, counted.
use Rattle.std.proofs.Common.{◌≡◌, ℕ, zero, suc, ◌+◌, ◌≤◌, Bool, true, false, cond, List, [], ◌∷◌, ◌++◌, take, drop, refl, sym, ap, ◌∙◌, arith, inl, inr, Some}
use Rattle.std.specs.List.{slice_get, count_by}
use Rattle.std.proofs.lemmas.Bool.{cases_Bool}
use Rattle.std.proofs.lemmas.Option.{slice_get_within}
use Rattle.std.proofs.lemmas.List.Sums.{sum_by-cons, sum_by-append, sum_by-take-drop}
use Rattle.sum_tree.specs.Spliced.{splice_list}
use Rattle.tree_cursor.specs.Places.{filter_count}
use Rattle.fragments.specs.declared.fragment.Fragment.{Fragment}
use Rattle.fragments.specs.declared.fragment.FragmentSummary.{FragmentSummary}
use Rattle.fragments.specs.Summaries.{summary_of}
use Rattle.remote_edit.specs.Among.{kept_count}
use Rattle.remote_edit.proofs.Finding.{Cursor, IsNext}
use Rattle.remote_edit.proofs.Finding as finding

module _ {A S : Type 0} (keeps : S → Bool) (sum_of : A → S) where
  abbrev kept : List A → ℕ
  kept xs = count_by (λ (x : A). keeps (sum_of x)) xs

  abbrev over : List A → ℕ
  over xs = filter_count keeps sum_of xs

  abbrev one_if : Bool → ℕ
  one_if b = cond b 1 0

  one_more : (y : A) (xs : List A) → kept (y ∷ xs) ≡ one_if (keeps (sum_of y)) + kept xs
  one_more y xs = sum_by-cons (λ (x : A). one_if (keeps (sum_of x))) y xs

  at_most_one : (b : Bool) → one_if b ≤ 1
  at_most_one true = omega arith
  at_most_one false = omega arith

  first_kept : (xs : List A) (x : A) (i after : ℕ) → i ≡ over xs → slice_get xs i ≡ Some x → after ≡ i + 1 → kept (drop after xs) + 1 ≤ kept xs
  first_kept [] x i after q e a = absurd (cc)
  first_kept (y ∷ xs) x i after q e a = elim (cases_Bool (keeps (sum_of y))) [
    | inl k ↦ (let z : over (y ∷ xs) ≡ 0 = rw k refl in
        let o : one_if (keeps (sum_of y)) ≡ 1 = ap one_if k in
        let d : after ≡ 1 = omega (arith, q, z, a) in
        let w : kept (drop after (y ∷ xs)) ≡ kept xs = ap (λ (j : ℕ). kept (drop j (y ∷ xs))) d in
        omega (arith, one_more y xs, o, w))
    | inr k ↦ (let z : over (y ∷ xs) ≡ 1 + over xs = rw k refl in later (first_kept xs x) i after (q ∙ z) e a)
  ]
    where
      later : ((i after : ℕ) → i ≡ over xs → slice_get xs i ≡ Some x → after ≡ i + 1 → kept (drop after xs) + 1 ≤ kept xs)
          → (i after : ℕ) → i ≡ 1 + over xs → slice_get (y ∷ xs) i ≡ Some x → after ≡ i + 1 → kept (drop after (y ∷ xs)) + 1 ≤ kept (y ∷ xs)
      later ih zero after q e a = absurd (omega (arith, q))
      later ih (suc i) zero q e a = absurd (omega (arith, a))
      later ih (suc i) (suc after) q e a = let h = ih i after (omega (arith, q)) e (omega (arith, a)) in omega (arith, one_more y xs, h)

  -- after the next that is kept there is one fewer
  pub next_kept : (n : ℕ) (xs : List A) (x : A) (i after : ℕ) → i ≡ n + over (drop n xs) → slice_get xs i ≡ Some x → after ≡ i + 1 → kept (drop after xs) + 1 ≤ kept (drop n xs)
  next_kept zero xs x i after q e a = first_kept xs x i after (omega (arith, q)) e a
  next_kept (suc n) [] x i after q e a = absurd (cc)
  next_kept (suc n) (y ∷ xs) x zero after q e a = absurd (omega (arith, q))
  next_kept (suc n) (y ∷ xs) x (suc i) zero q e a = absurd (omega (arith, a))
  next_kept (suc n) (y ∷ xs) x (suc i) (suc after) q e a = next_kept n xs x i after (omega (arith, q)) e (omega (arith, a))

  dropped : (i j : ℕ) (xs : List A) → j ≡ i + 1 → kept (drop j xs) ≤ kept (drop i xs)
  dropped i zero xs e = absurd (omega (arith, e))
  dropped zero (suc j) [] e = omega arith
  dropped (suc i) (suc j) [] e = omega arith
  dropped zero (suc j) (y ∷ xs) e =
      let q : j ≡ 0 = omega (arith, e) in
      let w : kept (drop j xs) ≡ kept xs = ap (λ (k : ℕ). kept (drop k xs)) q in
      omega (arith, one_more y xs, w)
  dropped (suc i) (suc j) (y ∷ xs) e = dropped i j xs (omega (arith, e))

  -- one in the place of one
  pub spliced_kept : (i : ℕ) (y : A) (xs : List A) → kept (splice_list i (i + 1) (y ∷ []) xs) ≤ kept xs + 1
  spliced_kept i y xs =
      let f : A → ℕ = λ (x : A). one_if (keeps (sum_of x)) in
      let a = sum_by-append f (take i xs ++ y ∷ []) (drop (i + 1) xs) in
      let b = sum_by-append f (take i xs) (y ∷ []) in
      let c = one_more y [] in
      let o = at_most_one (keeps (sum_of y)) in
      let d = dropped i (i + 1) xs refl in
      let t = sum_by-take-drop f xs i in
      omega (arith, a, b, c, o, d, t)

-- after a step of a cursor there is one fewer
pub step_kept : {K : Type 0} (keeps : K → FragmentSummary → Bool) (want : FragmentSummary → Bool) (fs : List Fragment) (a b : Cursor K) (x : Fragment) → a.items ≡ fs → keeps a.keep ≡ want → IsNext keeps a b
    → slice_get a.items (a.next + finding.over keeps a) ≡ Some x → kept_count want (drop b.next fs) + 1 ≤ kept_count want (drop a.next fs)
step_kept {K} keeps want fs a b x e w m g =
    let here : ℕ = a.next + finding.over keeps a in
    let over_is : finding.over keeps a ≡ filter_count want summary_of (drop a.next fs) =
    ap (λ (f : FragmentSummary → Bool). filter_count f summary_of (drop a.next a.items)) w ∙ ap (λ (z : List Fragment). filter_count want summary_of (drop a.next z)) e in
    let l = slice_get_within a.items here x g in
    let n = ap (λ (z : Cursor K). z.next) m in
    next_kept want summary_of a.next fs x here b.next (omega (arith, over_is)) (ap (λ (z : List Fragment). slice_get z here) (sym e) ∙ g) (omega (arith, n, l))
