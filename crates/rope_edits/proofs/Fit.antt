-- Pieces without a fault stand in order on boundaries, and how long the text is that they make.
use Rattle.std.proofs.Common.{◌≡◌, ℕ, suc, ◌+◌, ◌-◌, ◌≤◌, List, [], ◌∷◌, ◌++◌, length, drop, arith, false, ◌&&◌, None, option_map, nat_lt, length-append, length-drop}
use Rattle.std.proofs.lemmas.Bool.{and_parts, ltb-false, not-false}
use Rattle.std.proofs.lemmas.List.{length-take-le}
use Rattle.std.specs.List.{AllByRecursion, position, slice_range}
use Rattle.std.proofs.lemmas.Str.{IsCharBoundary-start}
use Rattle.std.specs.Str.{IsCharBoundary, IsUtf8}
use Rattle.op_model.specs.declared.operation.Piece.{Piece}
use Rattle.op_model.specs.declared.faults.EditFault.TheVariants.{Reversed, Overlap, PastEnd, InsideChar}
use Rattle.op_model.specs.Operations.{text_total}
use Rattle.op_model.specs.Edits.{is_boundary, is_reversed, is_past, is_inside, overlap_from, replaced_from, piece_fault}
use Rattle.rope_edits.specs.Fit.{AreFit}
use Rattle.op_model.proofs.texts.WholeTexts.{boundary_of}
use Rattle.op_model.proofs.answers.Passed.{all_none, if_some, map_none, position_none}

fits : (at i : ℕ) (ps : List Piece) (text : List ℕ) → IsCharBoundary text at → AllByRecursion (λ p. is_reversed p ≡ false) ps → overlap_from at i ps ≡ None → AllByRecursion (λ p. is_inside text p ≡ false) ps → AreFit at ps text
fits at i [] text h r o b = h
fits at i (p ∷ ps) text h r o b =
    let n = and_parts (is_boundary text p.start) (is_boundary text p.end) (not-false (is_boundary text p.start && is_boundary text p.end) b.0) in
    let k = if_some (nat_lt p.start at) i (overlap_from p.end (suc i) ps) o in
    (h, ltb-false _ _ k.0, boundary_of text p.start n.0, ltb-false _ _ r.0, fits p.end (suc i) ps text (boundary_of text p.end n.1) r.1 k.1 b.1)

-- the new text is no longer than the old and the new texts together
pub length_replaced : (at : ℕ) (ps : List Piece) (text : List ℕ) → AreFit at ps text → length (replaced_from at ps text) + at ≤ length text + text_total ps
length_replaced at [] text h = omega (arith, length-drop at text, h.0)
length_replaced at (p ∷ ps) text h =
    let more = p.text ++ replaced_from p.end ps text in
    let rest = length_replaced p.end ps text h.4 in
    let in_text : p.start ≤ length text = h.2.0 in
    let part : length (slice_range text at p.start) ≡ p.start - at = length-take-le (p.start - at) (drop at text) (omega (arith, length-drop at text, in_text)) in
    let whole : length (replaced_from at (p ∷ ps) text) ≡ length (slice_range text at p.start) + length more = length-append (slice_range text at p.start) more in
    let both : length more ≡ length p.text + length (replaced_from p.end ps text) = length-append p.text (replaced_from p.end ps text) in
    let up : at ≤ p.start = h.1 in
    let on : p.start ≤ p.end = h.3 in
    omega (arith, rest, part, whole, both, up, on)

pub fits_of_none : (text : List ℕ) (ps : List Piece) → piece_fault text ps ≡ None → IsUtf8 text → AreFit 0 ps text
fits_of_none text ps e u =
    let reversed = option_map Reversed (position is_reversed ps) in
    let overlap = option_map Overlap (overlap_from 0 0 ps) in
    let past = option_map (λ (i : ℕ). PastEnd i (length text)) (position (is_past (length text)) ps) in
    let inside = option_map InsideChar (position (is_inside text) ps) in
    let none = all_none (reversed ∷ overlap ∷ past ∷ inside ∷ []) e in
    let ordered = map_none Reversed (position is_reversed ps) none.0 in
    let sorted = map_none Overlap (overlap_from 0 0 ps) none.1.0 in
    let cut = map_none InsideChar (position (is_inside text) ps) none.1.1.1.0 in
    fits 0 0 ps text (IsCharBoundary-start text u) (position_none _ ps ordered) sorted (position_none _ ps cut)
