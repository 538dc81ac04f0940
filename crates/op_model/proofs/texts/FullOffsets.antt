-- Full offsets: what stands before the place that an offset of the text is taken to.
use Rattle.std.proofs.Common.{◌≡◌, ℕ, zero, suc, ◌<◌, ◌≤◌, Bool, List, [], ◌∷◌, length, map, take, get_or, refl, ◌∙◌, ap, inl, inr, true, false, cond, arith}
use Rattle.std.specs.List.{filter}
use Rattle.std.proofs.lemmas.Bool.{cases_Bool}
use Rattle.op_model.specs.Cells.{Cell}
use Rattle.op_model.specs.Made.{full_offset}

module _ (f : Cell → Bool) where
  -- the number of shown cells
  abbrev pub number : List Cell → ℕ
  number s = length (filter f s)

  number_shown : (c : Cell) (s : List Cell) → f c ≡ true → number (c ∷ s) ≡ suc (number s)
  number_shown c s e = rw e refl

  number_hidden : (c : Cell) (s : List Cell) → f c ≡ false → number (c ∷ s) ≡ number s
  number_hidden c s e = rw e refl

  offset_shown : (c : Cell) (s : List Cell) (o : ℕ) → f c ≡ true → full_offset f (c ∷ s) (suc o) ≡ suc (full_offset f s o)
  offset_shown c s o e = rw e refl

  offset_hidden : (c : Cell) (s : List Cell) (o : ℕ) → f c ≡ false → full_offset f (c ∷ s) (suc o) ≡ suc (full_offset f s (suc o))
  offset_hidden c s o e = rw e refl

  pub offset_count : (s : List Cell) (o : ℕ) → o ≤ number s → number (take (full_offset f s o) s) ≡ o
  offset_count [] o h = omega arith
  offset_count (c ∷ s) zero h = elim (cases_Bool (f c)) [ inl e ↦ rw e refl | inr e ↦ rw (e, e) (offset_count s zero (omega arith)) ]
  offset_count (c ∷ s) (suc o) h = elim (cases_Bool (f c)) [
    | inl e ↦ rw e (let g : suc o ≤ suc (number s) = rw e at h in ap suc (offset_count s o (omega arith)))
    | inr e ↦ rw e (offset_count s (suc o) (rw e at h))
  ]

  pub offset_next : (s : List Cell) (o : ℕ) → o < number s → number (take (suc (full_offset f s o)) s) ≡ suc o
  offset_next [] o h = absurd (omega arith)
  offset_next (c ∷ s) zero h = elim (cases_Bool (f c)) [ inl e ↦ rw e refl | inr e ↦ rw e (offset_next s zero (rw e at h)) ]
  offset_next (c ∷ s) (suc o) h = elim (cases_Bool (f c)) [
    | inl e ↦ (let k : suc o < suc (number s) = rw e at h in
        ap (λ (n : ℕ). number (take (suc n) (c ∷ s))) (offset_shown c s o e) ∙ number_shown c (take (suc (full_offset f s o)) s) e ∙ ap suc (offset_next s o (omega arith)))
    | inr e ↦ ap (λ (n : ℕ). number (take (suc n) (c ∷ s))) (offset_hidden c s o e) ∙ number_hidden c (take (suc (full_offset f s (suc o))) s) e ∙ offset_next s (suc o) (rw e at h)
  ]

  pub offset_length : (s : List Cell) (o : ℕ) → full_offset f s o ≤ length s
  offset_length [] o = omega arith
  offset_length (c ∷ s) zero = elim (cases_Bool (f c)) [ inl e ↦ rw e (omega arith) | inr e ↦ (let g = offset_length s zero in rw e (omega arith)) ]
  offset_length (c ∷ s) (suc o) = let g = offset_length s (cond (f c) o (suc o)) in omega arith

  pub offset_under : (s : List Cell) (o : ℕ) → o < number s → full_offset f s o < length s
  offset_under [] o h = absurd (omega arith)
  offset_under (c ∷ s) zero h = elim (cases_Bool (f c)) [ inl e ↦ rw e (omega arith) | inr e ↦ (let g = offset_under s zero (rw e at h) in rw e (omega arith)) ]
  offset_under (c ∷ s) (suc o) h = elim (cases_Bool (f c)) [
    | inl e ↦ (let k : suc o < suc (number s) = rw e at h in let g = offset_under s o (omega arith) in rw e (omega arith))
    | inr e ↦ (let g = offset_under s (suc o) (rw e at h) in rw e (omega arith))
  ]

  -- where there is no such shown cell, all stand before
  pub offset_end : (s : List Cell) (o : ℕ) → number s ≤ o → full_offset f s o ≡ length s
  offset_end [] o h = refl
  offset_end (c ∷ s) zero h = elim (cases_Bool (f c)) [
    | inl e ↦ (let k : suc (number s) ≤ 0 = rw e at h in absurd (omega arith))
    | inr e ↦ rw e (ap suc (offset_end s zero (rw e at h)))
  ]
  offset_end (c ∷ s) (suc o) h = elim (cases_Bool (f c)) [
    | inl e ↦ (let k : suc (number s) ≤ suc o = rw e at h in rw e (ap suc (offset_end s o (omega arith))))
    | inr e ↦ rw e (ap suc (offset_end s (suc o) (rw e at h)))
  ]

  pub offset_step : (s : List Cell) (o q : ℕ) → o < q → o < number s → suc (full_offset f s o) ≤ full_offset f s q
  offset_step [] o q h n = absurd (omega arith)
  offset_step (c ∷ s) o zero h n = absurd (omega arith)
  offset_step (c ∷ s) zero (suc q) h n = elim (cases_Bool (f c)) [
    | inl e ↦ rw e (omega arith)
    | inr e ↦ rw e (let g = offset_step s zero (suc q) h (rw e at n) in omega arith)
  ]
  offset_step (c ∷ s) (suc o) (suc q) h n = elim (cases_Bool (f c)) [
    | inl e ↦ rw e (let k : suc o < suc (number s) = rw e at n in let g = offset_step s o q (omega arith) (omega arith) in omega arith)
    | inr e ↦ rw e (let g = offset_step s (suc o) (suc q) h (rw e at n) in omega arith)
  ]

  pub offset_mono : (s : List Cell) (o q : ℕ) → o ≤ q → full_offset f s o ≤ full_offset f s q
  offset_mono [] o q h = omega arith
  offset_mono (c ∷ s) zero zero h = omega arith
  offset_mono (c ∷ s) (suc o) zero h = absurd (omega arith)
  offset_mono (c ∷ s) zero (suc q) h = elim (cases_Bool (f c)) [
    | inl e ↦ rw e (omega arith)
    | inr e ↦ rw e (let g = offset_mono s zero (suc q) h in omega arith)
  ]
  offset_mono (c ∷ s) (suc o) (suc q) h = elim (cases_Bool (f c)) [
    | inl e ↦ rw e (let g = offset_mono s o q (omega arith) in omega arith)
    | inr e ↦ rw e (let g = offset_mono s (suc o) (suc q) h in omega arith)
  ]

  -- the byte there is that of the shown cell
  pub offset_byte : (b : Cell → ℕ) (s : List Cell) (o : ℕ) → o < number s → get_or (map b s) (full_offset f s o) 0 ≡ get_or (map b (filter f s)) o 0
  offset_byte b [] o h = absurd (omega arith)
  offset_byte b (c ∷ s) zero h = elim (cases_Bool (f c)) [ inl e ↦ rw e refl | inr e ↦ rw e (offset_byte b s zero (rw e at h)) ]
  offset_byte b (c ∷ s) (suc o) h = elim (cases_Bool (f c)) [
    | inl e ↦ rw e (let k : suc o < suc (number s) = rw e at h in offset_byte b s o (omega arith))
    | inr e ↦ rw e (offset_byte b s (suc o) (rw e at h))
  ]
