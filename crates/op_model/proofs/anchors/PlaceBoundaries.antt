-- The place of a known anchor is a boundary of the text.
use Rattle.std.proofs.Common.{◌≡◌, ◌⊎◌, inl, inr, ℕ, suc, ◌-◌, ◌≤◌, ◌<◌, ◌&&◌, Bool, true, false, List, [], ◌∷◌, ◌++◌, length, map, filter, get_or, refl, sym, ap, ◌∙◌, subst, arith, append_assoc, append-nil, Some, None}
use Rattle.std.specs.Prelude.{slice_get, nat_le, nat_lt}
use Rattle.std.specs.List.{AllByRecursion}
use Rattle.std.proofs.lemmas.Bool.{cases_Bool, and_parts, ltb-true, leb-true}
use Rattle.std.proofs.lemmas.List.{length-map, map-append}
use Rattle.lamport_clock.specs.declared.stamp.Lamport.{Lamport}
use Rattle.op_model.specs.declared.anchor.Anchor.{Anchor}
use Rattle.op_model.specs.declared.anchor.Anchor.TheVariants.{Least, Greatest, At}
use Rattle.op_model.specs.declared.anchor.Bias.TheVariants.{Left, Right}
use Rattle.op_model.specs.Edits.{is_boundary}
use Rattle.op_model.specs.Histories.{History, Distinct, has_edit}
use Rattle.op_model.specs.Domains.{IsProper}
use Rattle.op_model.specs.Sorted.{Member}
use Rattle.op_model.specs.Cells.{Cell, same_cell, seq, cells}
use Rattle.op_model.specs.Shown.{new_bytes, IsCell, byte, shows, text}
use Rattle.op_model.specs.Facts.{Fact, Continues, fact, cell_facts}
use Rattle.op_model.specs.Lawful.{Lawful}
use Rattle.op_model.specs.Anchors.{shown_cells, cells_upto, cells_before, place, is_known, known_place}
use Rattle.op_model.specs.Laws.{PlacesAreBoundaries}
use Rattle.op_model.proofs.order.PathOrder.{same_cell_eq, same_cell_refl}
use Rattle.op_model.proofs.order.CellsOnce.{all_cells}
use Rattle.op_model.proofs.answers.Good.{lawful_ready}
use Rattle.op_model.proofs.answers.SameAnswers.{text_is}
use Rattle.op_model.proofs.texts.WholeTexts.{of_boundary, lawful_whole, same_byte}
use Rattle.op_model.proofs.texts.WholeRuns.{Texts, told_apart, told_first}
use Rattle.op_model.proofs.texts.WholeWalks.{texts_of}
use Rattle.op_model.proofs.anchors.AnchorOrder.{have_place}
use Rattle.op_model.proofs.anchors.KnownAnchors.{got_map}
use Rattle.op_model.proofs.anchors.AnchorPlaces.{got_member}
use Rattle.op_model.proofs.anchors.Standing.{end_boundary}

-- a list around a member of it
same_itself : (c d : Cell) → c ≡ d → same_cell d c ≡ false → ⊥
same_itself c d q n = let r : same_cell d d ≡ false = subst (λ (x : Cell). same_cell d x ≡ false) q n in let t = same_cell_refl d in cc

split_before : (s : List Cell) (c : Cell) → Member c s → (rest : List Cell) × (s ≡ cells_before s c ++ c ∷ rest) × (cells_upto s c ≡ cells_before s c ++ c ∷ [])
split_before [] c m = absurd m
split_before (d ∷ s) c m = go (cases_Bool (same_cell d c)) (λ n. split_before s c n)
  where
    go : (same_cell d c ≡ true) ⊎ (same_cell d c ≡ false) → (Member c s → (rest : List Cell) × (s ≡ cells_before s c ++ c ∷ rest) × (cells_upto s c ≡ cells_before s c ++ c ∷ []))
        → (rest : List Cell) × (d ∷ s ≡ cells_before (d ∷ s) c ++ c ∷ rest) × (cells_upto (d ∷ s) c ≡ cells_before (d ∷ s) c ++ c ∷ [])
    go (inl t) ih = let e = same_cell_eq d c t in (s, rw t (ap (λ (x : Cell). x ∷ s) e), rw t (ap (λ (x : Cell). x ∷ []) e))
    go (inr t) ih = let w = ih (elim m [ inl q ↦ absurd (same_itself c d q t) | inr n ↦ n ]) in (w.0, rw t (ap (λ (x : List Cell). d ∷ x) w.1), rw t (ap (λ (x : List Cell). d ∷ x) w.2))

got_next : (f : Cell → Bool) (xs : List Cell) (d : Cell) (ys : List Cell) → f d ≡ true → slice_get (filter f (xs ++ d ∷ ys)) (length (filter f xs)) ≡ Some d
got_next f [] d ys p = rw p refl
got_next f (x ∷ xs) d ys p = go (cases_Bool (f x)) (got_next f xs d ys p)
  where
    go : (f x ≡ true) ⊎ (f x ≡ false) → slice_get (filter f (xs ++ d ∷ ys)) (length (filter f xs)) ≡ Some d → slice_get (filter f ((x ∷ xs) ++ d ∷ ys)) (length (filter f (x ∷ xs))) ≡ Some d
    go (inl q) ih = rw q ih
    go (inr q) ih = rw q ih

one_less : (f : Cell → Bool) (xs : List Cell) (d : Cell) → f d ≡ false → length (filter f (xs ++ d ∷ [])) ≡ length (filter f xs)
one_less f [] d p = rw p refl
one_less f (x ∷ xs) d p = go (cases_Bool (f x)) (one_less f xs d p)
  where
    go : (f x ≡ true) ⊎ (f x ≡ false) → length (filter f (xs ++ d ∷ [])) ≡ length (filter f xs) → length (filter f ((x ∷ xs) ++ d ∷ [])) ≡ length (filter f (x ∷ xs))
    go (inl q) ih = rw q (ap suc ih)
    go (inr q) ih = rw q ih

module _ (h : History) (l : Lawful h) (proper : AllByRecursion IsProper h) where
  d : Distinct h
  d = (lawful_ready h l).0.distinct

  u : Texts h
  u = texts_of h proper

  -- a character begins at a cell
  abbrev Begins : Cell → Type 0
  Begins c = is_boundary (new_bytes h c.stamp) c.k ≡ true

  -- at the first cell after a seam, where it is shown
  abbrev Seam : List Cell → Type 0
  Seam [] = Unit {0}
  Seam (y ∷ ys) = shows h y ≡ true → Begins y

  told_is : (xs ys : List Cell) → cells (seq h) ≡ xs ++ ys → cell_facts h ≡ map (fact h) xs ++ map (fact h) ys
  told_is xs ys e = ap (map (fact h)) e ∙ map-append (fact h) xs ys

  apart : (xs : List Cell) (c y : Cell) (ys : List Cell) → cells (seq h) ≡ xs ++ c ∷ y ∷ ys → (Continues (fact h c) (fact h y) → ⊥) → Begins y
  apart xs c y ys e n = of_boundary (new_bytes h y.stamp) y.k (told_apart h d u (lawful_whole h l u) (map (fact h) xs) (map (fact h) ys) (fact h c) (fact h y) (told_is xs (c ∷ y ∷ ys) e) n).1

  unlike : (c y : Cell) → shows h c ≡ false → shows h y ≡ true → Continues (fact h c) (fact h y) → ⊥
  unlike c y p q i = let j : shows h y ≡ shows h c = ap (λ (z : Fact). z.visible) i in cc

  -- a seam after a hidden cell
  hidden_seam : (xs : List Cell) (c : Cell) (ys : List Cell) → cells (seq h) ≡ xs ++ c ∷ ys → shows h c ≡ false → Seam ys
  hidden_seam xs c [] e p = tt
  hidden_seam xs c (y ∷ ys) e p = λ q. apart xs c y ys e (unlike c y p q)

  from_seam : (ys xs : List Cell) → cells (seq h) ≡ xs ++ ys → Seam ys → is_boundary (text h) (length (filter (shows h) xs)) ≡ true
  from_seam [] xs e s = end_boundary (text h) (length (filter (shows h) xs))
      (ap (λ (z : List Cell). length (filter (shows h) z)) (sym (e ∙ append-nil xs)) ∙ sym (length-map (shown_cells h) (byte h)) ∙ ap length (sym (text_is h d)))
  from_seam (y ∷ ys) xs e s = go (cases_Bool (shows h y)) (from_seam ys (xs ++ y ∷ []))
    where
      go : (shows h y ≡ true) ⊎ (shows h y ≡ false) → (cells (seq h) ≡ (xs ++ y ∷ []) ++ ys → Seam ys → is_boundary (text h) (length (filter (shows h) (xs ++ y ∷ []))) ≡ true)
          → is_boundary (text h) (length (filter (shows h) xs)) ≡ true
      go (inr p) ih = subst (λ (n : ℕ). is_boundary (text h) n ≡ true) (one_less (shows h) xs y p) (ih (e ∙ sym (append_assoc xs (y ∷ []) ys)) (hidden_seam xs y ys e p))
      go (inl p) ih =
          let o : ℕ = length (filter (shows h) xs) in
          let g : slice_get (shown_cells h) o ≡ Some y = ap (λ (z : List Cell). slice_get (filter (shows h) z) o) e ∙ got_next (shows h) xs y ys p in
          let n : IsCell h y = (all_cells h d y).0 (got_member (shows h) (cells (seq h)) o y g) in
          let m = got_map (byte h) (shown_cells h) o y g in
          let t : text h ≡ map (byte h) (shown_cells h) = text_is h d in
          let r : o < length (text h) = subst (λ (z : List ℕ). o < length z) (sym t) m.0 in
          let k : get_or (text h) o 0 ≡ byte h y = ap (λ (z : List ℕ). get_or z o 0) t ∙ m.1 in
          same_byte (text h) (new_bytes h y.stamp) o y.k r n k ∙ s p

  left_seam : (t : Lamport) (k : ℕ) (xs ys : List Cell) → 1 ≤ k → is_boundary (new_bytes h t) k ≡ true → cells (seq h) ≡ xs ++ (record { stamp = t; k = k - 1 }) ∷ ys → Seam ys
  left_seam t k xs [] z b e = tt
  left_seam t k xs (y ∷ ys) z b e = λ q. go (cases_Bool (same_cell y (record { stamp = t; k = k })))
    where
      next : suc (k - 1) ≡ k
      next = omega (arith, z)

      go : (same_cell y (record { stamp = t; k = k }) ≡ true) ⊎ (same_cell y (record { stamp = t; k = k }) ≡ false) → Begins y
      go (inl i) = subst (λ (c : Cell). is_boundary (new_bytes h c.stamp) c.k ≡ true) (sym (same_cell_eq y (record { stamp = t; k = k }) i)) b
      go (inr n) = apart xs (record { stamp = t; k = k - 1 }) y ys e (λ i.
          let j : y ≡ record { stamp = t; k = suc (k - 1) } = ap (λ (x : Fact). x.cell) i in
          let f : y ≡ record { stamp = t; k = k } = j ∙ (λ p. record { stamp = t; k = next p }) in
          same_itself (record { stamp = t; k = k }) y (sym f) n)

  first_seam : (ys : List Cell) → cells (seq h) ≡ ys → Seam ys
  first_seam [] e = tt
  first_seam (y ∷ ys) e = λ q. of_boundary (new_bytes h y.stamp) y.k (told_first h d u (lawful_whole h l u) (map (fact h) ys) (fact h y) (ap (map (fact h)) e))

  place_boundary : (a : Anchor) → is_known h a ≡ true → is_boundary (text h) (place h a) ≡ true
  unfolding place is_known
  place_boundary Least e = from_seam (cells (seq h)) [] refl (first_seam (cells (seq h)) refl)
  place_boundary Greatest e = end_boundary (text h) (length (text h)) refl
  place_boundary (At t k Left) e =
      let n : ℕ = length (new_bytes h t) in
      let x = and_parts (has_edit h t && is_boundary (new_bytes h t) k && nat_le 1 k) (nat_le k n) e in
      let y = and_parts (has_edit h t && is_boundary (new_bytes h t) k) (nat_le 1 k) x.0 in
      let b = (and_parts (has_edit h t) (is_boundary (new_bytes h t) k) y.0).1 in
      let p = leb-true 1 k y.1 in
      let q = leb-true k n x.1 in
      let c : Cell = record { stamp = t; k = k - 1 } in
      let w = split_before (cells (seq h)) c ((all_cells h d c).1 (omega (arith, p, q))) in
      let s : cells (seq h) ≡ (cells_before (cells (seq h)) c ++ c ∷ []) ++ w.0 = w.1 ∙ sym (append_assoc (cells_before (cells (seq h)) c) (c ∷ []) w.0) in
      subst (λ (z : List Cell). is_boundary (text h) (length (filter (shows h) z)) ≡ true) (sym w.2)
      (from_seam w.0 (cells_before (cells (seq h)) c ++ c ∷ []) s (left_seam t k (cells_before (cells (seq h)) c) w.0 p b w.1))
  place_boundary (At t k Right) e =
      let n : ℕ = length (new_bytes h t) in
      let x = and_parts (has_edit h t && is_boundary (new_bytes h t) k) (nat_lt k n) e in
      let b = (and_parts (has_edit h t) (is_boundary (new_bytes h t) k) x.0).1 in
      let c : Cell = record { stamp = t; k = k } in
      let w = split_before (cells (seq h)) c ((all_cells h d c).1 (ltb-true k n x.1)) in
      from_seam (c ∷ w.0) (cells_before (cells (seq h)) c) w.1 (λ q. b)

pub place_bounded : PlacesAreBoundaries
place_bounded h l p a n e = go (cases_Bool (is_known h a)) e
  where
    go : (is_known h a ≡ true) ⊎ (is_known h a ≡ false) → known_place h a ≡ Some n → is_boundary (text h) n ≡ true
    go (inl t) e = subst (λ (m : ℕ). is_boundary (text h) m ≡ true) (sym (have_place h a n e)) (place_boundary h l p a t)
    go (inr t) e = let f : None ≡ Some n = rw t at e in absurd (Rattle.std.proofs.lemmas.Option.none-some n f)
