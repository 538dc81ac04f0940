-- Runs of kept bytes: they keep their marks, and ranges that begin or end there go along.
use Rattle.std.proofs.Common.{◌≡◌, inl, inr, ℕ, zero, suc, ◌+◌, ◌-◌, ◌≤◌, ◌<◌, List, [], ◌∷◌, map, get_or, refl, sym, ap, ◌∙◌, subst, arith}
use Rattle.std.specs.Prelude.{◌⊎◌, nat_le}
use Rattle.std.specs.List.{All}
use Rattle.std.proofs.lemmas.Bool.Decides.{nat_tests}
use Rattle.std.proofs.lemmas.List.Elements.{All-nil, All-cons}
use Rattle.fold_spans.specs.Marks.{Range, marks}
use Rattle.fold_spans.specs.Sweep.{range_of, IsWithin}
use Rattle.fold_spans.specs.Parts.{Stays, AllStay, RunStays, AreKept}
use Rattle.fold_spans.specs.declared.sweep.FoldRange.{FoldRange}
use Rattle.fold_spans.proofs.Kept.{kept_marks_stay}

-- ---- marks

module _ (rs qs : List Range) where
  at_place : (i j k l : ℕ) → k ≡ i → l ≡ j → AllStay rs qs i j → AllStay rs qs k l
  at_place i j k l e f s = subst (λ (n : ℕ). AllStay rs qs k n) (sym f) (subst (λ (n : ℕ). AllStay rs qs n j) (sym e) s)

  as_run : (n i j : ℕ) → ((k : ℕ) → k ≤ n → AllStay rs qs (i + k) (j + k)) → RunStays rs qs i j n
  as_run zero i j g = at_place (i + 0) (j + 0) i j (omega arith) (omega arith) (g 0 (omega arith))
  as_run (suc n) i j g = (
    at_place (i + 0) (j + 0) i j (omega arith) (omega arith) (g 0 (omega arith)),
    as_run n (suc i) (suc j) (λ k l. at_place (i + suc k) (j + suc k) (suc i + k) (suc j + k) (omega arith) (omega arith) (g (suc k) (omega (arith, l)))),
  )

  -- the bytes x..x+d are kept, and stand at y..y+d now
  module _ (x y d : ℕ) (kept : AreKept rs qs x y d) where
    seen : (i : ℕ) → x ≤ i → i < x + d → AllStay rs qs i (y + (i - x))
    seen i l h = at_place (x + (i - x)) (y + (i - x)) i (y + (i - x)) (omega (arith, l)) refl (kept (i - x) (omega (arith, l, h)))

    -- c of them from p on, with the one before p, or from the start of both texts
    pub kept_marks : (p j c : ℕ) → x ≤ p → j ≡ y + (p - x) → p + c ≤ x + d → (x < p) ⊎ ((p ≡ 0) × (j ≡ 0)) → marks rs p c ≡ marks qs j c
    kept_marks p j zero l e h t = refl
    kept_marks p j (suc c) l e h (inl t) =
        let a : suc (p - 1) ≡ p = omega (arith, t) in
        let b : suc (j - 1) ≡ j = omega (arith, t, e) in
        let run : RunStays rs qs (p - 1) (j - 1) (suc c) = as_run (suc c) (p - 1) (j - 1)
        (λ k g. at_place (p - 1 + k) (y + (p - 1 + k - x)) (p - 1 + k) (j - 1 + k) refl (omega (arith, t, e)) (seen (p - 1 + k) (omega (arith, t)) (omega (arith, t, h, g)))) in
        ap (λ (w : ℕ). marks rs w (suc c)) (sym a) ∙ (kept_marks_stay rs qs (suc c)).0 (p - 1) (j - 1) run ∙ ap (λ (w : ℕ). marks qs w (suc c)) b
    kept_marks p j (suc c) l e h (inr t) =
        let a = t.0 in
        let b = t.1 in
        let run : RunStays rs qs 0 0 c = as_run c 0 0 (λ k g. at_place k (y + (k - x)) (0 + k) (0 + k) (omega arith) (omega (arith, a, b, l, e)) (seen k (omega (arith, a, l)) (omega (arith, a, h, g)))) in
        ap (λ (w : ℕ). marks rs w (suc c)) a ∙ (kept_marks_stay rs qs c).1 run ∙ sym (ap (λ (w : ℕ). marks qs w (suc c)) b)

-- ---- places

-- a range in both texts, of n and of m bytes
pub record Bounds (n m : ℕ) (r q : FoldRange) : Type 0 where
  pub old : IsWithin 0 n r
  pub new : IsWithin 0 m q
  pub number : q.number ≡ r.number

-- what begins or ends before place p of the old text is before place j now, and what is after it is after that
pub record IsAround (p j : ℕ) (r q : FoldRange) : Type 0 where
  pub start_low : r.start ≤ p → q.start ≤ j
  pub start_high : p ≤ r.start → j ≤ q.start
  pub end_low : r.end ≤ p → q.end ≤ j
  pub end_high : p ≤ r.end → j ≤ q.end

test_low : (u v i j : ℕ) → nat_le u i ≡ nat_le v j → u ≤ i → v ≤ j
test_low u v i j e l = grind (arith, nat_tests, e, l)

test_high : (u v i j : ℕ) → nat_le u i ≡ nat_le v j → i < u → j < v
test_high u v i j e l = grind (arith, nat_tests, e, l)

-- what is known of the byte before a place, and of the one after it
abbrev pub Below : ℕ → ℕ → FoldRange → FoldRange → Type 0
Below p j r q = ((p ≡ 0) × (j ≡ 0)) ⊎ ((0 < p) × (0 < j) × Stays (range_of r) (range_of q) (p - 1) (j - 1))

abbrev pub Above : ℕ → ℕ → ℕ → ℕ → FoldRange → FoldRange → Type 0
Above n m p j r q = ((n ≤ p) × (j ≡ m)) ⊎ Stays (range_of r) (range_of q) p j

module _ (n m p j : ℕ) (r q : FoldRange) where
  low : Above n m p j r q → (u v : ℕ) → (Stays (range_of r) (range_of q) p j → nat_le u p ≡ nat_le v j) → v ≤ m → u ≤ p → v ≤ j
  low (inl t) u v g w l = let e = t.1 in omega (arith, e, w)
  low (inr t) u v g w l = test_low u v p j (g t) l

  high : Below p j r q → (u v : ℕ) → (Stays (range_of r) (range_of q) (p - 1) (j - 1) → nat_le u (p - 1) ≡ nat_le v (j - 1)) → p ≤ u → j ≤ v
  high (inl t) u v g l = let e = t.1 in omega (arith, e)
  high (inr t) u v g l = let a = t.0 in let b = t.1 in let e = test_high u v (p - 1) (j - 1) (g t.2) (omega (arith, l, a)) in omega (arith, e, b)

  start_high : Below p j r q → p ≤ r.start → j ≤ q.start
  start_high t = high t r.start q.start (λ s. s.start)

  end_high : Below p j r q → p ≤ r.end → j ≤ q.end
  end_high t = high t r.end q.end (λ s. s.end)

  start_low : Bounds n m r q → Above n m p j r q → r.start ≤ p → q.start ≤ j
  start_low b t = low t r.start q.start (λ s. s.start) (let x = b.new.order in let y = b.new.end in omega (arith, x, y))

  end_low : Bounds n m r q → Above n m p j r q → r.end ≤ p → q.end ≤ j
  end_low b t = low t r.end q.end (λ s. s.end) b.new.end

stay_of : (f : FoldRange → FoldRange) (rs : List FoldRange) (i j : ℕ) → AllStay (map range_of rs) (map range_of (map f rs)) i j → All (λ r. Stays (range_of r) (range_of (f r)) i j) rs
stay_of f [] i j s = All-nil (λ r. Stays (range_of r) (range_of (f r)) i j)
stay_of f (r ∷ rs) i j s = All-cons (λ x. Stays (range_of x) (range_of (f x)) i j) r rs s.0 (stay_of f rs i j s.1)

module _ (f : FoldRange → FoldRange) (rs : List FoldRange) (n m : ℕ) (b : All (λ r. Bounds n m r (f r)) rs) (x y d : ℕ) (kept : AreKept (map range_of rs) (map range_of (map f rs)) x y d) where
  -- a place among kept bytes, or beside them at an end of the texts
  below : (p : ℕ) → x ≤ p → p ≤ x + d → (x < p) ⊎ ((p ≡ 0) × (y + (p - x) ≡ 0)) → All (λ r. Below p (y + (p - x)) r (f r)) rs
  below p l h (inr t) = λ i e k. inl t
  below p l h (inl t) =
      let j : y + (p - x) - 1 ≡ y + (p - 1 - x) = omega (arith, t) in
      let s = stay_of f rs (p - 1) (y + (p - x) - 1) (at_place (map range_of rs) (map range_of (map f rs)) (p - 1) (y + (p - 1 - x)) (p - 1) (y + (p - x) - 1) refl j
      (seen (map range_of rs) (map range_of (map f rs)) x y d kept (p - 1) (omega (arith, t)) (omega (arith, t, h)))) in
      λ i e k. inr (omega (arith, t), omega (arith, t), s i e k)

  above : (p : ℕ) → x ≤ p → p ≤ x + d → (p < x + d) ⊎ ((n ≤ p) × (y + (p - x) ≡ m)) → All (λ r. Above n m p (y + (p - x)) r (f r)) rs
  above p l h (inr t) = λ i e k. inl t
  above p l h (inl t) = let s = stay_of f rs p (y + (p - x)) (seen (map range_of rs) (map range_of (map f rs)) x y d kept p l t) in λ i e k. inr (s i e k)

  pub starts_after : (p : ℕ) → x ≤ p → p ≤ x + d → (x < p) ⊎ ((p ≡ 0) × (y + (p - x) ≡ 0)) → All (λ r. p ≤ r.start → y + (p - x) ≤ (f r).start) rs
  starts_after p l h lo = let s = below p l h lo in λ i e t. start_high n m p (y + (p - x)) (get_or rs i e) (f (get_or rs i e)) (s i e t)

  pub ends_before : (p : ℕ) → x ≤ p → p ≤ x + d → (p < x + d) ⊎ ((n ≤ p) × (y + (p - x) ≡ m)) → All (λ r. r.end ≤ p → (f r).end ≤ y + (p - x)) rs
  ends_before p l h hi = let s = above p l h hi in λ i e t. end_low n m p (y + (p - x)) (get_or rs i e) (f (get_or rs i e)) (b i e t) (s i e t)

  pub around_all : (p : ℕ) → x ≤ p → p ≤ x + d → (x < p) ⊎ ((p ≡ 0) × (y + (p - x) ≡ 0)) → (p < x + d) ⊎ ((n ≤ p) × (y + (p - x) ≡ m)) → All (λ r. IsAround p (y + (p - x)) r (f r)) rs
  around_all p l h lo hi =
      let s = below p l h lo in
      let t = above p l h hi in
      λ i e k. record {
        start_low = start_low n m p (y + (p - x)) (get_or rs i e) (f (get_or rs i e)) (b i e k) (t i e k);
        start_high = start_high n m p (y + (p - x)) (get_or rs i e) (f (get_or rs i e)) (s i e k);
        end_low = end_low n m p (y + (p - x)) (get_or rs i e) (f (get_or rs i e)) (b i e k) (t i e k);
        end_high = end_high n m p (y + (p - x)) (get_or rs i e) (f (get_or rs i e)) (s i e k);
      }
