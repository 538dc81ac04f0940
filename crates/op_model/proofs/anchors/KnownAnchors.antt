-- An anchor that is made where a character begins is known.
use Rattle.std.proofs.Common.{◌≡◌, ℕ, zero, suc, ◌<◌, ◌≤◌, ◌⊎◌, Bool, List, [], ◌∷◌, length, map, get_or, refl, sym, ◌∙◌, ap, subst, inl, inr, true, false, cond, ◌||◌, eqb, arith, Some, None, Option}
use Rattle.std.specs.Prelude.{option_map, slice_get}
use Rattle.std.proofs.lemmas.Bool.{cases_Bool, lt-ltb}
use Rattle.lamport_clock.specs.declared.stamp.Lamport.{Lamport}
use Rattle.lamport_clock.specs.Stamps.{same_stamp}
use Rattle.op_model.specs.declared.operation.Operation.TheVariants.{Edit, Undo}
use Rattle.op_model.specs.Edits.{is_boundary}
use Rattle.op_model.specs.Histories.{History, Distinct, has_edit}
use Rattle.op_model.specs.Cells.{Cell, seq, cells}
use Rattle.op_model.specs.Shown.{texts, new_bytes, IsCell, byte, shows, text}
use Rattle.op_model.specs.declared.anchor.Anchor.{Anchor}
use Rattle.op_model.specs.Anchors.{shown_cells, right_anchor, is_known}
use Rattle.op_model.specs.declared.anchor.Anchor.TheVariants.{Greatest, At}
use Rattle.op_model.specs.declared.anchor.Bias.TheVariants.{Right}
use Rattle.op_model.proofs.order.CellsOnce.{all_cells}
use Rattle.op_model.proofs.texts.WholeTexts.{boundary_of, of_boundary}
use Rattle.op_model.proofs.answers.SameAnswers.{text_is}
use Rattle.op_model.proofs.anchors.AnchorPlaces.{got_member}

-- a stamp with new bytes is that of an edit
pub edit_there : (h : History) (t : Lamport) (k : ℕ) → k < length (new_bytes h t) → has_edit h t ≡ true
edit_there [] t k l = absurd (omega arith)
edit_there (Edit e ∷ h) t k l = go (same_stamp e.stamp t) l (edit_there h t k)
  where
    go : (b : Bool) → k < length (cond b (texts e.pieces) (new_bytes h t)) → (k < length (new_bytes h t) → has_edit h t ≡ true) → (b || has_edit h t) ≡ true
    go true l f = refl
    go false l f = f l
edit_there (Undo u ∷ h) t k l = go (same_stamp u.stamp t) l (edit_there h t k)
  where
    go : (b : Bool) → k < length (cond b [] (new_bytes h t)) → (k < length (new_bytes h t) → has_edit h t ≡ true) → has_edit h t ≡ true
    go true l f = absurd (omega arith)
    go false l f = f l

pub got_map : (g : Cell → ℕ) (s : List Cell) (o : ℕ) (c : Cell) → slice_get s o ≡ Some c → (o < length (map g s)) × (get_or (map g s) o 0 ≡ g c)
got_map g [] o c e = cc
got_map g (d ∷ s) zero c e = let i : d ≡ c = cc in (omega arith, ap g i)
got_map g (d ∷ s) (suc o) c e = let k = got_map g s o c e in (let n = k.0 in omega arith, k.1)

pub right_known : (h : History) → Distinct h → (o : ℕ) (a : Anchor) → is_boundary (text h) o ≡ true → right_anchor h o ≡ Some a → is_known h a ≡ true
unfolding right_anchor is_known
right_known h d o a b e = at_end (cases_Bool (eqb o (length (text h))))
  where
    go : (g : Option Cell) → slice_get (shown_cells h) o ≡ g → option_map (λ (c : Cell). At c.stamp c.k Right) g ≡ Some a → is_known h a ≡ true
    go None q e = cc
    go (Some c) q e =
        let i : At c.stamp c.k Right ≡ a = cc in
        let n : IsCell h c = (all_cells h d c).0 (got_member (shows h) (cells (seq h)) o c q) in
        let m = got_map (byte h) (shown_cells h) o c q in
        let t : text h ≡ map (byte h) (shown_cells h) = text_is h d in
        let l : o < length (text h) = subst (λ (z : List ℕ). o < length z) (sym t) m.0 in
        let y : get_or (text h) o 0 ≡ get_or (new_bytes h c.stamp) c.k 0 = ap (λ (z : List ℕ). get_or z o 0) t ∙ m.1 in
        let w : is_boundary (new_bytes h c.stamp) c.k ≡ true = of_boundary (new_bytes h c.stamp) c.k (omega (arith, n), λ j x. subst (λ (z : ℕ). 192 ≤ z) y ((boundary_of (text h) o b).1 l (subst (λ (z : ℕ). 128 ≤ z) (sym y) x))) in
        subst (λ (x : Anchor). is_known h x ≡ true) i (rw (edit_there h c.stamp c.k n, w, lt-ltb c.k (length (new_bytes h c.stamp)) n) refl)

    at_end : (eqb o (length (text h)) ≡ true) ⊎ (eqb o (length (text h)) ≡ false) → is_known h a ≡ true
    at_end (inl t) = let s : Some Greatest ≡ Some a = rw t at e in let i : Greatest ≡ a = cc in
        subst (λ (x : Anchor). is_known h x ≡ true) i refl
    at_end (inr t) = go (slice_get (shown_cells h) o) refl (rw t at e)
