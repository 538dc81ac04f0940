-- The fault of an edit, by the total length of its texts as they enter.
use Rattle.std.proofs.Common.{◌≡◌, ℕ, ◌+◌, ◌<◌, ◌≤◌, eqb, ltb, List, [], ◌∷◌, length, sym, ◌∙◌, ap, None, Some, Option}
use Rattle.std.specs.Prelude.{option_map}
use Rattle.std.proofs.lemmas.Bool.{lt-ltb, le-ltb, eq-eqb, ne_eqb}
use Rattle.lamport_clock.specs.Clocks.{last_value}
use Rattle.op_model.specs.declared.faults.EditFault.{EditFault}
use Rattle.op_model.specs.declared.faults.EditFault.TheVariants.{TextLimit, ClockEnd, Full}
use Rattle.op_model.specs.declared.operation.Piece.{Piece}
use Rattle.op_model.specs.Choice.{first_of, when}
use Rattle.op_model.specs.Edits.{piece_fault}
use Rattle.op_model.specs.Histories.{clock}
use Rattle.op_model.specs.Limited.{Excess, excess}
use Rattle.op_model.specs.Operations.{text_limit, text_total}
use Rattle.op_model.specs.Rules.{pieces_under}
use Rattle.op_model.specs.Shown.{text}
use Rattle.op_model.proofs.answers.Passed.{first_alone, first_here, first_past, none_when, some_when}
use Rattle.text_buffer.specs.Buffer.{BufferState, edit_fault}
use Rattle.text_buffer.specs.Document.{excess_of}
use Rattle.text_buffer.specs.declared.faults.Excess.{Excess as FoundExcess}
use Rattle.text_buffer.proofs.LineEndings.{length_under, piece_fault_under}

abbrev full : Excess → EditFault
full e = Full e.unit e.held e.adds

abbrev pub found_full : FoundExcess → EditFault
found_full e = Full e.unit e.held e.adds

-- pieces that meet no fault against the text of b; n is the total of their texts as they enter
module _ (b : BufferState) (ps : List Piece) (n : ℕ) (p : piece_fault (text b.history) ps ≡ None) (t : n ≡ text_total (pieces_under b.endings ps)) where
  abbrev over : Option EditFault
  over = option_map full (excess b.limits b.history n (1 + length ps))

  abbrev ended : Option EditFault
  ended = when (eqb (clock b.history) last_value) ClockEnd

  late : first_of (when (ltb text_limit n) (TextLimit n) ∷ ended ∷ over ∷ []) ≡ edit_fault b ps
  late =
      let a = sym p ∙ sym (piece_fault_under b.endings (text b.history) ps) in
      let c = sym (length_under b.endings ps) in
      λ i. first_of (a i ∷ when (ltb text_limit (t i)) (TextLimit (t i)) ∷ ended ∷ option_map full (excess b.limits b.history (t i) (1 + c i)) ∷ [])

  pub too_long : text_limit < n → Some (TextLimit n) ≡ edit_fault b ps
  too_long l = sym (first_here (when (ltb text_limit n) (TextLimit n)) (ended ∷ over ∷ []) (TextLimit n) (some_when (ltb text_limit n) (TextLimit n) (lt-ltb text_limit n l))) ∙ late

  short : n ≤ text_limit → first_of (ended ∷ over ∷ []) ≡ edit_fault b ps
  short l = sym (first_past (when (ltb text_limit n) (TextLimit n)) (ended ∷ over ∷ []) (none_when (ltb text_limit n) (TextLimit n) (le-ltb text_limit n l))) ∙ late

  pub at_end : n ≤ text_limit → clock b.history ≡ last_value → Some ClockEnd ≡ edit_fault b ps
  at_end l e = sym (first_here ended (over ∷ []) ClockEnd (some_when (eqb (clock b.history) last_value) ClockEnd (eq-eqb (clock b.history) last_value e))) ∙ short l

  by_room : n ≤ text_limit → (clock b.history ≡ last_value → ⊥) → over ≡ edit_fault b ps
  by_room l e = first_alone over ∙ sym (first_past ended (over ∷ []) (none_when (eqb (clock b.history) last_value) ClockEnd (ne_eqb (clock b.history) last_value e))) ∙ short l

  pub by_excess : n ≤ text_limit → (clock b.history ≡ last_value → ⊥) → (x : Option FoundExcess) → option_map excess_of x ≡ excess b.limits b.history n (1 + length ps)
      → option_map found_full x ≡ edit_fault b ps
  by_excess l e None q = ap (option_map full) q ∙ by_room l e
  by_excess l e (Some x) q = ap (option_map full) q ∙ by_room l e
