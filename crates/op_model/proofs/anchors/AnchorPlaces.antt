-- An anchor that is made at a place of the text stands there.
use Rattle.std.proofs.Common.{◌≡◌, ℕ, zero, suc, ◌-◌, ◌⊎◌, Bool, List, [], ◌∷◌, length, refl, sym, ◌∙◌, ap, subst, inl, inr, true, false, eqb, arith, Some, None, Option}
use Rattle.std.specs.Prelude.{option_map, slice_get}
use Rattle.std.specs.List.{AllByRecursion, filter}
use Rattle.std.proofs.lemmas.Bool.{cases_Bool, eqb-true}
use Rattle.op_model.specs.Sorted.{EachPair, Member}
use Rattle.op_model.specs.Histories.{History, Distinct}
use Rattle.op_model.specs.Cells.{Cell, same_cell, seq, cells}
use Rattle.op_model.specs.Shown.{shows, text}
use Rattle.op_model.specs.declared.anchor.Anchor.{Anchor}
use Rattle.op_model.specs.Anchors.{shown_cells, left_anchor, right_anchor, cells_upto, cells_before, shown_count, place}
use Rattle.op_model.specs.declared.anchor.Anchor.TheVariants.{Least, Greatest, At}
use Rattle.op_model.specs.declared.anchor.Bias.TheVariants.{Left, Right}
use Rattle.op_model.proofs.order.PathOrder.{same_cell_eq, same_cell_refl}
use Rattle.op_model.proofs.order.CellsOnce.{once}
use Rattle.op_model.proofs.Elements.{member_at, filter_of, each_member}

module _ (f : Cell → Bool) where
  abbrev pub number : List Cell → ℕ
  number s = length (filter f s)

  -- what is got of the shown cells is one of all
  pub got_member : (s : List Cell) (o : ℕ) (c : Cell) → slice_get (filter f s) o ≡ Some c → Member c s
  got_member s o c e = (filter_of f c s (member_at (filter f s) o c e)).0

  other : (d c : Cell) → (d ≡ c → ⊥) → same_cell d c ≡ false
  other d c n = elim (cases_Bool (same_cell d c)) [ inl e ↦ absurd (n (same_cell_eq d c e)) | inr e ↦ e ]

  other_member : (d c : Cell) (s : List Cell) → AllByRecursion (λ (b : Cell). d ≡ b → ⊥) s → Member c s → same_cell d c ≡ false
  other_member d c s u m = other d c (each_member (λ (b : Cell). d ≡ b → ⊥) s c u m)

  pub upto_count : (s : List Cell) (o : ℕ) (c : Cell) → EachPair (λ (a b : Cell). a ≡ b → ⊥) s → slice_get (filter f s) o ≡ Some c → number (cells_upto s c) ≡ suc o
  upto_count [] o c u e = cc
  upto_count (d ∷ s) o c u e = go (cases_Bool (f d)) (λ n g. upto_count s n c u.1 g)
    where
      here : (n : ℕ) → f d ≡ true → slice_get (d ∷ filter f s) n ≡ Some c → ((m : ℕ) → slice_get (filter f s) m ≡ Some c → number (cells_upto s c) ≡ suc m) → number (cells_upto (d ∷ s) c) ≡ suc n
      here zero v g ih = let i : d ≡ c = cc in let t : same_cell d c ≡ true = subst (λ (x : Cell). same_cell d x ≡ true) i (same_cell_refl d) in rw t (rw v refl)
      here (suc n) v g ih = let t = other_member d c s u.0 (got_member s n c g) in rw t (rw v (ap suc (ih n g)))

      go : (f d ≡ true) ⊎ (f d ≡ false) → ((m : ℕ) → slice_get (filter f s) m ≡ Some c → number (cells_upto s c) ≡ suc m) → number (cells_upto (d ∷ s) c) ≡ suc o
      go (inl v) ih = here o v (rw v at e) ih
      go (inr v) ih = let g : slice_get (filter f s) o ≡ Some c = rw v at e in let t = other_member d c s u.0 (got_member s o c g) in rw t (rw v (ih o g))

  pub before_count : (s : List Cell) (o : ℕ) (c : Cell) → EachPair (λ (a b : Cell). a ≡ b → ⊥) s → slice_get (filter f s) o ≡ Some c → number (cells_before s c) ≡ o
  before_count [] o c u e = cc
  before_count (d ∷ s) o c u e = go (cases_Bool (f d)) (λ n g. before_count s n c u.1 g)
    where
      here : (n : ℕ) → f d ≡ true → slice_get (d ∷ filter f s) n ≡ Some c → ((m : ℕ) → slice_get (filter f s) m ≡ Some c → number (cells_before s c) ≡ m) → number (cells_before (d ∷ s) c) ≡ n
      here zero v g ih = let i : d ≡ c = cc in let t : same_cell d c ≡ true = subst (λ (x : Cell). same_cell d x ≡ true) i (same_cell_refl d) in rw t refl
      here (suc n) v g ih = let t = other_member d c s u.0 (got_member s n c g) in rw t (rw v (ap suc (ih n g)))

      go : (f d ≡ true) ⊎ (f d ≡ false) → ((m : ℕ) → slice_get (filter f s) m ≡ Some c → number (cells_before s c) ≡ m) → number (cells_before (d ∷ s) c) ≡ o
      go (inl v) ih = here o v (rw v at e) ih
      go (inr v) ih = let g : slice_get (filter f s) o ≡ Some c = rw v at e in let t = other_member d c s u.0 (got_member s o c g) in rw t (rw v (ih o g))

same_record : (c : Cell) (k : ℕ) → k ≡ c.k → record { stamp = c.stamp; k = k } ≡ c
same_record c k e = λ i. record { stamp = c.stamp; k = e i }

pub left_place : (h : History) → Distinct h → (o : ℕ) (a : Anchor) → left_anchor h o ≡ Some a → place h a ≡ o
unfolding left_anchor place
left_place h d zero a e = let i : Least ≡ a = cc in subst (λ (x : Anchor). place h x ≡ 0) i refl
left_place h d (suc o) a e = go (slice_get (shown_cells h) o) refl e
  where
    go : (g : Option Cell) → slice_get (shown_cells h) o ≡ g → option_map (λ (c : Cell). At c.stamp (suc c.k) Left) g ≡ Some a → place h a ≡ suc o
    go None q e = cc
    go (Some c) q e = let i : At c.stamp (suc c.k) Left ≡ a = cc in
        let r : record { stamp = c.stamp; k = suc c.k - 1 } ≡ c = same_record c (suc c.k - 1) (omega arith) in
        subst (λ (x : Anchor). place h x ≡ suc o) i (ap (λ (x : Cell). shown_count h (cells_upto (cells (seq h)) x)) r ∙ upto_count (shows h) (cells (seq h)) o c (once h d) q)

pub right_place : (h : History) → Distinct h → (o : ℕ) (a : Anchor) → right_anchor h o ≡ Some a → place h a ≡ o
unfolding right_anchor place
right_place h d o a e = at_end (cases_Bool (eqb o (length (text h))))
  where
    go : (g : Option Cell) → slice_get (shown_cells h) o ≡ g → option_map (λ (c : Cell). At c.stamp c.k Right) g ≡ Some a → place h a ≡ o
    go None q e = cc
    go (Some c) q e = let i : At c.stamp c.k Right ≡ a = cc in subst (λ (x : Anchor). place h x ≡ o) i (before_count (shows h) (cells (seq h)) o c (once h d) q)

    at_end : (eqb o (length (text h)) ≡ true) ⊎ (eqb o (length (text h)) ≡ false) → place h a ≡ o
    at_end (inl t) = let s : Some Greatest ≡ Some a = rw t at e in let i : Greatest ≡ a = cc in
        subst (λ (x : Anchor). place h x ≡ o) i (sym (eqb-true o (length (text h)) t))
    at_end (inr t) = go (slice_get (shown_cells h) o) refl (rw t at e)
