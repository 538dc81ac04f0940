-- What is known of the cells of a history with one edit more.
use Rattle.op_model.proofs.order.PathOrder.{same_cell_refl as same_self}
use Rattle.std.proofs.Math.Bool.{or-false}
use Rattle.op_model.proofs.Elements.{each_map, each_both}
use Rattle.std.proofs.Common.{◌≡◌, ℕ, zero, suc, ◌+◌, ◌-◌, ◌⊎◌, Bool, List, [], ◌∷◌, ◌++◌, length, map, refl, sym, ◌∙◌, ap, inl, inr, true, false, cond, arith}
use Rattle.std.specs.List.{AllByRecursion}
use Rattle.std.proofs.lemmas.Bool.{cases_Bool}
use Rattle.lamport_clock.specs.declared.stamp.Lamport.{Lamport}
use Rattle.op_model.specs.declared.operation.Piece.{Piece}
use Rattle.lamport_clock.specs.Stamps.{later}
use Rattle.op_model.specs.Cells.{Cell, cell_at, same_cell, PathCell, text_places, left_path, cells}
use Rattle.op_model.specs.Laid.{after_run, after_run_from, only, index_after, lay}
use Rattle.op_model.specs.Shown.{in_pieces, in_ranges}
use Rattle.op_model.specs.Facts.{Fact, alike, past_later, put_at, fact_index_after, lay_facts, mark, marks, Marking}
use Rattle.op_model.proofs.order.Unique.{Unique, other_way}

module _ (gv : Cell → Bool) (gd : Cell → List Lamport) where
  abbrev pub tell : Cell → Fact
  tell c = record { cell = c; visible = gv c; deletions = gd c }

  abbrev pub telling : List PathCell → List Fact
  telling s = map tell (cells s)

  telling_append : (xs ys : List PathCell) → telling (xs ++ ys) ≡ telling xs ++ telling ys
  telling_append [] ys = refl
  telling_append (x ∷ xs) ys = ap (λ (z : List Fact). tell x.cell ∷ z) (telling_append xs ys)

  tell_nth : (keep : Lamport → Bool) (s : List PathCell) (n : ℕ) → fact_index_after keep (telling s) n ≡ index_after keep s n
  tell_nth keep s zero = refl
  tell_nth keep [] (suc n) = refl
  tell_nth keep (q ∷ s) (suc n) = ap suc (tell_nth keep s (cond (keep q.cell.stamp) n (suc n)))

  tell_run : (t : Lamport) (ns s : List PathCell) → telling (after_run t ns s) ≡ past_later t (telling ns) (telling s)
  tell_run t ns [] = refl
  tell_run t ns (q ∷ s) = elim (cases_Bool (later q.cell.stamp t)) [
    | inl l ↦ rw l (ap (λ (z : List Fact). tell q.cell ∷ z) (tell_run t ns s))
    | inr l ↦ rw l (telling_append ns (q ∷ s))
  ]

  tell_put : (i : ℕ) (t : Lamport) (ns s : List PathCell) → telling (after_run_from i t ns s) ≡ put_at i t (telling ns) (telling s)
  tell_put zero t ns s = tell_run t ns s
  tell_put (suc i) t ns [] = refl
  tell_put (suc i) t ns (q ∷ s) = ap (λ (z : List Fact). tell q.cell ∷ z) (tell_put i t ns s)

  module _ (t : Lamport) (new_v : (k : ℕ) → gv (record { stamp = t; k = k }) ≡ true) (new_d : (k : ℕ) → gd (record { stamp = t; k = k }) ≡ []) where
    tell_text : (u : List Cell) (k : ℕ) (bs : List ℕ) → telling (text_places u t k bs) ≡ alike t k (length bs) true []
    tell_text u k [] = refl
    tell_text u k (b ∷ bs) = rw (new_v k, new_d k) (ap (λ (z : List Fact). record { cell = record { stamp = t; k = k }; visible = true; deletions = [] } ∷ z) (tell_text (u ++ cell_at t k ∷ []) (suc k) bs))

    pub tell_lay : (keep : Lamport → Bool) (k : ℕ) (ps : List Piece) (s : List PathCell) → telling (lay keep t k ps s) ≡ lay_facts keep t 0 k ps (telling s)
    tell_lay keep k [] s = refl
    tell_lay keep k (p ∷ ps) s =
        let r : List PathCell = lay keep t (k + length p.text) ps s in
        let i : ℕ = index_after keep r p.start in
        let n : p.start ≡ p.start - 0 = omega arith in
        tell_put i t (text_places (left_path r i) t k p.text) r
        ∙ ap (λ (z : List Fact). put_at i t z (telling r)) (tell_text (left_path r i) k p.text)
        ∙ ap (λ (j : ℕ). put_at j t (alike t k (length p.text) true []) (telling r)) (sym (tell_nth keep r p.start) ∙ ap (fact_index_after keep (telling r)) n)
        ∙ ap (λ (z : List Fact). put_at (fact_index_after keep z (p.start - 0)) t (alike t k (length p.text) true []) z) (tell_lay keep (k + length p.text) ps s)

-- the facts after the edit: those in ranges are marked
module _ (m : Marking) (keep : Lamport → Bool) (ps : List Piece)
    (gv hv : Cell → Bool) (gd hd : Cell → List Lamport) where
  abbrev Anew : List PathCell → ℕ → PathCell → Type 0
  Anew s i q = (tell hv hd q.cell ≡ cond (in_ranges (only keep s) i ps q.cell) (mark m (tell gv gd q.cell)) (tell gv gd q.cell))

  absent : (c : Cell) (s : List PathCell) (i : ℕ) → AllByRecursion (λ (q : PathCell). same_cell c q.cell ≡ false) s → in_ranges (only keep s) i ps c ≡ false
  absent c [] i e = refl
  absent c (q ∷ s) i e = elim (cases_Bool (keep q.cell.stamp)) [
    | inl k ↦ rw (k, other_way c q.cell e.0) (absent c s (suc i) e.1)
    | inr k ↦ rw k (absent c s i e.1)
  ]

  pub tell_marks : (s : List PathCell) (i : ℕ) → Unique s → AllByRecursion (Anew s i) s → telling hv hd s ≡ marks m keep (in_pieces ps) i (telling gv gd s)
  tell_marks [] i u e = refl
  tell_marks (q ∷ s) i u e = go (cases_Bool (keep q.cell.stamp)) (λ j f. tell_marks s j u.1 f)
    where
      here : keep q.cell.stamp ≡ true → in_ranges (only keep (q ∷ s)) i ps q.cell ≡ in_pieces ps i
      here k = rw (k, same_self q.cell, absent q.cell s (suc i) u.0) (or-false (in_pieces ps i))

      below : keep q.cell.stamp ≡ true → (x : PathCell) → same_cell q.cell x.cell ≡ false → Anew (q ∷ s) i x → Anew s (suc i) x
      below k x n a = let g : in_ranges (only keep (q ∷ s)) i ps x.cell ≡ in_ranges (only keep s) (suc i) ps x.cell = rw (k, n) refl in
          a ∙ ap (λ (b : Bool). cond b (mark m (tell gv gd x.cell)) (tell gv gd x.cell)) g

      beside : keep q.cell.stamp ≡ false → (x : PathCell) → Anew (q ∷ s) i x → Anew s i x
      beside k x a = let g : in_ranges (only keep (q ∷ s)) i ps x.cell ≡ in_ranges (only keep s) i ps x.cell = rw k refl in
          a ∙ ap (λ (b : Bool). cond b (mark m (tell gv gd x.cell)) (tell gv gd x.cell)) g

      go : (keep q.cell.stamp ≡ true) ⊎ (keep q.cell.stamp ≡ false)
          → ((j : ℕ) → AllByRecursion (Anew s j) s → telling hv hd s ≡ marks m keep (in_pieces ps) j (telling gv gd s))
          → telling hv hd (q ∷ s) ≡ marks m keep (in_pieces ps) i (telling gv gd (q ∷ s))
      go (inl k) ih = rw (
        k,
        ← here k,
        ← e.0,
        ← ih (suc i) (each_both (λ (x : PathCell). same_cell q.cell x.cell ≡ false) (Anew (q ∷ s) i) (Anew s (suc i)) (below k) s u.0 e.1),
      ) refl
      go (inr k) ih = let a : in_ranges (only keep (q ∷ s)) i ps q.cell ≡ false = rw k (absent q.cell s i u.0) in
          let b : tell hv hd q.cell ≡ tell gv gd q.cell = e.0 ∙ ap (λ (b : Bool). cond b (mark m (tell gv gd q.cell)) (tell gv gd q.cell)) a in
          rw (k, b, ih i (each_map (Anew (q ∷ s) i) (Anew s i) (beside k) s e.1)) refl
