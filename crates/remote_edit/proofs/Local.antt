-- A local edit without fault has its ranges in the text, and the operation with full ranges is the one that is made.
use Rattle.std.proofs.Common.{◌≡◌, ℕ, ◌+◌, ◌≤◌, false, List, [], ◌∷◌, length, None, sym, ap, ◌∙◌, arith}
use Rattle.std.proofs.lemmas.Bool.{ltb-false}
use Rattle.std.specs.Prelude.{nat_lt, ◌==◌, option_map}
use Rattle.std.specs.List.{AllByRecursion, position}
use Rattle.lamport_clock.specs.Clocks.{last_value}
use Rattle.op_model.specs.declared.operation.Piece.{Piece}
use Rattle.op_model.specs.declared.limits.Limits.{Limits as LimitsType}
use Rattle.op_model.specs.declared.faults.EditFault.TheVariants.{Reversed, Overlap, PastEnd, InsideChar, TextLimit, ClockEnd, Full}
use Rattle.op_model.specs.Choice.{when}
use Rattle.op_model.specs.Operations.{text_total, text_limit}
use Rattle.op_model.specs.Histories.{History, clock}
use Rattle.op_model.specs.Shown.{text}
use Rattle.op_model.specs.Edits.{is_reversed, is_past, is_inside, overlap_from, piece_fault}
use Rattle.op_model.specs.Limited.{excess}
use Rattle.op_model.specs.Made.{local_edit_fault}
use Rattle.op_model.proofs.answers.Passed.{all_none, first_none, map_none, position_none}
use Rattle.op_model.proofs.texts.WholeTexts.{byte_of}
use Rattle.fragments.specs.declared.fragment.Fragment.{Fragment}
use Rattle.fragments.specs.Stand.{Tell}
use Rattle.fragments.specs.Laws.{shown_len}
use Rattle.remote_edit.specs.Offsets.{IsInText}
use Rattle.remote_edit.proofs.Carrying.{shown_long}
use Rattle.remote_edit.proofs.Texts.{text_bytes}

text_long : (h : History) (fs : List Fragment) → Tell fs h → length (text h) ≡ shown_len fs
text_long h fs e = sym (shown_long (byte_of h) fs ∙ ap length (text_bytes h fs e))

ranges_in : (fs : List Fragment) (n : ℕ) (ps : List Piece) → n ≡ shown_len fs → AllByRecursion (λ (p : Piece). is_reversed p ≡ false) ps → AllByRecursion (λ (p : Piece). is_past n p ≡ false) ps → AllByRecursion (IsInText fs) ps
ranges_in fs n [] q a b = tt
ranges_in fs n (p ∷ ps) q a b =
    let f : p.start ≤ p.end = ltb-false p.end p.start a.0 in
    let w : p.end ≤ n = ltb-false n p.end b.0 in
    (record { forward = f; within = omega (arith, w, q) }, ranges_in fs n ps q a.1 b.1)

pub in_text : (l : LimitsType) (h : History) (fs : List Fragment) (ps : List Piece) → Tell fs h → local_edit_fault l h ps ≡ None → AllByRecursion (IsInText fs) ps
in_text l h fs ps e g =
    let n : ℕ = length (text h) in
    let a = first_none (piece_fault (text h) ps) (when (nat_lt text_limit (text_total ps)) (TextLimit (text_total ps)) ∷ when (clock h == last_value) ClockEnd
    ∷ option_map (λ x. Full x.unit x.held x.adds) (excess l h (text_total ps) (1 + length ps)) ∷ []) g in
    let b = all_none (option_map Reversed (position is_reversed ps) ∷ option_map Overlap (overlap_from 0 0 ps) ∷ option_map (λ (i : ℕ). PastEnd i n) (position (is_past n) ps) ∷ option_map InsideChar (position (is_inside (text h)) ps) ∷ []) a.0 in
    ranges_in fs n ps (text_long h fs e) (position_none is_reversed ps (map_none Reversed (position is_reversed ps) b.0)) (position_none (is_past n) ps (map_none (λ i. PastEnd i n) (position (is_past n) ps) b.1.1.0))
