-- The pieces of a buffer before an excerpt and after it, as pieces of the text before it and of the text after it.
use Rattle.std.proofs.Common.{◌≡◌, inl, inr, ℕ, zero, suc, ◌+◌, ◌-◌, ◌≤◌, ◌<◌, ltb, List, [], ◌∷◌, map, refl, ap, ◌∙◌, arith}
use Rattle.std.specs.List.{AllByRecursion, filter}
use Rattle.std.proofs.lemmas.Bool.{cases_Bool}
use Rattle.std.proofs.lemmas.Bool.Decides.{nat_tests}
use Rattle.op_model.specs.declared.operation.Piece.{Piece}
use Rattle.op_model.specs.Walked.{Ordered as AreWithin}
use Rattle.multi_buffer.specs.declared.excerpt.Excerpt.{Excerpt}
use Rattle.multi_buffer.proofs.Grouped.{IsClear, AreSorted, is_after, is_before, none_before}
use Rattle.multi_buffer.proofs.Kept.{AreApart, AreBefore}
use Rattle.multi_buffer.proofs.Owned.{as_piece, sooner}
use Rattle.multi_buffer.proofs.Replacing.{from_start, later}

sorted_from : (a b : ℕ) (qs : List Piece) → a ≤ b → AreSorted b qs → AreSorted a qs
sorted_from a b [] l s = tt
sorted_from a b (q ∷ qs) l s = let m = s.0 in (omega arith, s.1)

pub sorted_within : (at n : ℕ) (qs : List Piece) → AreWithin at n qs → AreSorted at qs
sorted_within at n [] w = tt
sorted_within at n (q ∷ qs) w = (w.0, sorted_from q.start q.end qs w.1 (sorted_within q.end n qs w.2))

module _ (x : Excerpt) (rising : x.start ≤ x.end) where
  -- ---- before it

  before_below : (o at n : ℕ) (qs : List Piece) → x.start ≡ suc o → at ≤ o → AreWithin at n qs → AllByRecursion (IsClear x) qs → AreWithin at o (filter (is_before x) qs)
  before_below o at n [] e l w c = l
  before_below o at n (q ∷ qs) e l w c = elim (cases_Bool (ltb q.start x.start)) [
    | inl t ↦ (
        let u : q.start < x.start = grind (arith, nat_tests, t) in
        let m : q.end ≤ o = elim c.0.clear [
          | inl d ↦ (let k = d.0 in absurd (omega (arith, k, u)))
          | inr d ↦ elim d [ inl k ↦ omega (arith, k, e) | inr k ↦ absurd (omega (arith, k, u, rising)) ]
        ] in
        rw t (w.0, w.1, before_below o q.end n qs e m w.2 c.1))
    | inr t ↦ (
        let u : x.start ≤ q.start = grind (arith, nat_tests, t) in
        let none : filter (is_before x) qs ≡ [] = none_before x q.start qs u (sorted_from q.start q.end qs w.1 (sorted_within q.end n qs w.2)) in
        rw (t, none) l)
  ]

  pub are_before : (n : ℕ) (qs : List Piece) → AreWithin 0 n qs → AllByRecursion (IsClear x) qs → AreBefore x.start (filter (is_before x) qs)
  are_before n qs w c = go x.start refl
    where
      go : (s : ℕ) → x.start ≡ s → AreBefore s (filter (is_before x) qs)
      go zero e = none_before x 0 qs (omega (arith, e)) (sorted_within 0 n qs w)
      go (suc o) e = before_below o 0 n qs e (omega arith) w c

  -- ---- after it

  abbrev pub afters : List Piece → List Piece
  afters qs = map (sooner x.end) (filter (is_after x) qs)

  pub after_within : (at n : ℕ) (qs : List Piece) → AreWithin at n qs → AreWithin (at - x.end) (n - x.end) (afters qs)
  after_within at n [] w = omega (arith, w)
  after_within at n (q ∷ qs) w =
      let a = w.0 in
      let b = w.1 in
      let ih = after_within q.end n qs w.2 in
      elim (cases_Bool (ltb x.end q.start)) [
        | inl t ↦ rw t (omega arith, omega arith, ih)
        | inr t ↦ rw t (from_start (at - x.end) (q.end - x.end) (n - x.end) (afters qs) (omega arith) ih)
      ]

  pub after_apart : (qs : List Piece) → AreApart (afters qs)
  after_apart [] = tt
  after_apart (q ∷ qs) = elim (cases_Bool (ltb x.end q.start)) [
    | inl t ↦ (let u : x.end < q.start = grind (arith, nat_tests, t) in rw t (omega arith))
    | inr t ↦ rw t (after_apart qs)
  ]

  back : (q : Piece) → x.end < q.start → q.start ≤ q.end → as_piece (x.start + (x.end - x.start + (q.start - x.end))) (x.start + (x.end - x.start + (q.end - x.end))) q.text ≡ q
  back q l m =
      let a : x.start + (x.end - x.start + (q.start - x.end)) ≡ q.start = omega arith in
      let b : x.start + (x.end - x.start + (q.end - x.end)) ≡ q.end = omega arith in
      go (x.start + (x.end - x.start + (q.start - x.end))) q.start (x.start + (x.end - x.start + (q.end - x.end))) q.end a b
    where
      go : (s t e f : ℕ) → s ≡ t → e ≡ f → as_piece s e q.text ≡ as_piece t f q.text
      go s t e f i j = rw (i, j) refl

  pub after_back : (at n : ℕ) (qs : List Piece) → AreWithin at n qs → later x.start (later (x.end - x.start) (afters qs)) ≡ filter (is_after x) qs
  after_back at n [] w = refl
  after_back at n (q ∷ qs) w =
      let ih = after_back q.end n qs w.2 in
      elim (cases_Bool (ltb x.end q.start)) [
        | inl t ↦ (
            let u : x.end < q.start = grind (arith, nat_tests, t) in
            rw t (ap (λ (z : Piece). z ∷ later x.start (later (x.end - x.start) (afters qs))) (back q u w.1) ∙ ap (λ (zs : List Piece). q ∷ zs) ih))
        | inr t ↦ rw t ih
      ]
