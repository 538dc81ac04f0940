-- Where the cells of known anchors stand.
use Rattle.std.proofs.Common.{ℕ, ◌≡◌, List, length, refl, true, arith, ◌-◌, ◌<◌, ◌∷◌, ◌++◌, ◌&&◌, ltb, ◌≤◌, leb, ◌∙◌, ap, zero, suc, Some, ◌⊎◌, sym, inl, inr, false, None, Bool, cond}
use Rattle.std.proofs.lemmas.Bool.{le-leb, and_parts, ltb-true, leb-true, cases_Bool, ltb-false, cases_lt, eq-eqb}
use Rattle.std.proofs.lemmas.List.{length-map}
use Rattle.std.proofs.lemmas.Option.{none-some}
use Rattle.std.specs.Prelude.{slice_get}
use Rattle.std.specs.Option.{option_map}
use Rattle.op_model.specs.Edits.{is_boundary}
use Rattle.op_model.specs.Histories.{History, has_edit}
use Rattle.op_model.specs.Cells.{Cell, seq, cells}
use Rattle.op_model.specs.Shown.{new_bytes, byte, text}
use Rattle.op_model.specs.Lawful.{Lawful}
use Rattle.op_model.proofs.order.CellsOnce.{all_cells}
use Rattle.op_model.proofs.answers.Good.{lawful_ready}
use Rattle.op_model.proofs.answers.SameAnswers.{text_is}
use Rattle.op_model.proofs.Elements.{split_at, none_past}
use Rattle.op_model.specs.Anchors.{is_known, shown_cells, left_anchor, place_fault, right_anchor}
use Rattle.op_model.specs.declared.anchor.Anchor.TheVariants.{At, Least, Greatest}
use Rattle.op_model.specs.declared.anchor.Bias.TheVariants.{Right, Left}
use Rattle.op_model.specs.declared.faults.PlaceFault.TheVariants.{PastEnd}
use Rattle.lamport_clock.specs.declared.stamp.Lamport.{Lamport}

-- ---- boundaries

pub end_boundary : (xs : List ℕ) (i : ℕ) → i ≡ length xs → is_boundary xs i ≡ true
end_boundary xs i e = rw (le-leb i (length xs) (omega (arith, e)), le-leb (length xs) i (omega (arith, e))) refl

-- the cells of a history split at one of them
pub split_cell : (h : History) → Lawful h → (c : Cell) → c.k < length (new_bytes h c.stamp) → (cs ds : List Cell) × (cells (seq h) ≡ cs ++ c ∷ ds)
split_cell h l c i = split_at c (cells (seq h)) ((all_cells h (lawful_ready h l).0.distinct c).1 i)

-- the cell that a known anchor names
pub right_cell : (h : History) (t : Lamport) (k : ℕ) → is_known h (At t k Right) ≡ true → k < length (new_bytes h t)
unfolding is_known
right_cell h t k e = ltb-true k (length (new_bytes h t)) (and_parts (has_edit h t && is_boundary (new_bytes h t) k) (ltb k (length (new_bytes h t))) e).1

pub left_cell : (h : History) (t : Lamport) (k : ℕ) → is_known h (At t k Left) ≡ true → (1 ≤ k) × (k - 1 < length (new_bytes h t))
unfolding is_known
left_cell h t k e =
    let x = and_parts (has_edit h t && is_boundary (new_bytes h t) k && leb 1 k) (leb k (length (new_bytes h t))) e in
    let y = and_parts (has_edit h t && is_boundary (new_bytes h t) k) (leb 1 k) x.0 in
    let a = leb-true 1 k y.1 in
    let b = leb-true k (length (new_bytes h t)) x.1 in
    (a, omega (arith, a, b))

-- ---- anchors

pub text_length : (h : History) → Lawful h → length (text h) ≡ length (shown_cells h)
text_length h l = ap length (text_is h (lawful_ready h l).0.distinct) ∙ length-map (shown_cells h) (byte h)

pub left_start : (h : History) (o : ℕ) → o ≡ 0 → left_anchor h o ≡ Some Least
unfolding left_anchor
left_start h zero e = refl
left_start h (suc o) e = absurd (omega (arith, e))

-- ---- faults

pub faultless_within : (h : History) (o : ℕ) → place_fault h o ≡ None → o ≤ length (text h)
faultless_within h o e = go (cases_Bool (ltb (length (text h)) o)) e
  where
    go : (ltb (length (text h)) o ≡ true) ⊎ (ltb (length (text h)) o ≡ false) → place_fault h o ≡ None → o ≤ length (text h)
    go (inl t) e = let q : Some (PastEnd (length (text h))) ≡ None = rw t at e in absurd (none-some (PastEnd (length (text h))) (sym q))
    go (inr t) e = ltb-false (length (text h)) o t

pub left_within : (h : History) (o : ℕ) → Lawful h → (o ≡ 0 → ⊥) → o ≤ length (text h) → None ≡ slice_get (shown_cells h) (o - 1) → ⊥
left_within h o l z m e = let n = none_past (shown_cells h) (o - 1) (sym e) in let t = text_length h l in
    elim (cases_lt 0 o) [ inl p ↦ absurd (omega (arith, n, t, m, p)) | inr p ↦ z (omega (arith, p)) ]

pub right_end : (h : History) (o : ℕ) → Lawful h → o ≤ length (text h) → None ≡ slice_get (shown_cells h) o → right_anchor h o ≡ Some Greatest
unfolding right_anchor
right_end h o l m e =
    let n = none_past (shown_cells h) o (sym e) in let t = text_length h l in
    let q : o ≡ length (text h) = omega (arith, n, t, m) in
    ap (λ (b : Bool). cond b (Some Greatest) (option_map (λ (c : Cell). At c.stamp c.k Right) (slice_get (shown_cells h) o))) (eq-eqb o (length (text h)) q)
