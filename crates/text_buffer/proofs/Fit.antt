-- What an edit without fault says of its pieces and of the limits.
use Rattle.lamport_clock.specs.Clocks.{last_value}
use Rattle.op_model.proofs.answers.Passed.{map_none, all_none}
use Rattle.std.proofs.Common.{◌≡◌, ◌+◌, List, ◌∷◌, [], length, ◌==◌, None, option_map, nat_lt}
use Rattle.op_model.specs.declared.operation.Piece.{Piece}
use Rattle.op_model.specs.declared.faults.EditFault.{EditFault}
use Rattle.op_model.specs.declared.faults.EditFault.TheVariants.{TextLimit, ClockEnd, Full}
use Rattle.op_model.specs.Choice.{when}
use Rattle.op_model.specs.Operations.{text_total, text_limit}
use Rattle.op_model.specs.Histories.{History, clock}
use Rattle.op_model.specs.Made.{local_edit_fault}
use Rattle.op_model.specs.declared.limits.Limits.{Limits as LimitsType}
use Rattle.op_model.specs.Limited.{Excess, excess}
use Rattle.op_model.specs.Edits.{piece_fault}
use Rattle.op_model.specs.Shown.{text}

abbrev full : Excess → EditFault
full e = Full e.unit e.held e.adds

-- what an edit that meets no fault meets none of
meets_none : (l : LimitsType) (h : History) (ps : List Piece) → local_edit_fault l h ps ≡ None → (piece_fault (text h) ps ≡ None) × (excess l h (text_total ps) (1 + length ps) ≡ None)
meets_none l h ps e =
    let long = when (nat_lt text_limit (text_total ps)) (TextLimit (text_total ps)) in
    let late = when (clock h == last_value) ClockEnd in
    let over = excess l h (text_total ps) (1 + length ps) in
    let none = all_none (piece_fault (text h) ps ∷ long ∷ late ∷ option_map full over ∷ []) e in
    (none.0, map_none full over none.1.1.1.0)

pub no_excess : (l : LimitsType) (h : History) (ps : List Piece) → local_edit_fault l h ps ≡ None → excess l h (text_total ps) (1 + length ps) ≡ None
no_excess l h ps e = (meets_none l h ps e).1
