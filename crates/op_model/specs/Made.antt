-- The operations that a replica makes, and the fault that a local undo meets.
use Rattle.std.specs.Prelude.{ℕ, zero, suc, ◌+◌, ◌-◌, ◌==◌, Bool, not, if◌then◌else◌, List, [], ◌∷◌, map, length, Option, Some, None, option_map}
use Rattle.std.specs.List.{find, list_any}
use Rattle.lamport_clock.specs.Clocks.{last_value}
use Rattle.lamport_clock.specs.declared.stamp.Lamport.{Lamport}
use Rattle.lamport_clock.specs.Stamps.{same_stamp}
use Rattle.op_model.specs.declared.operation.Piece.{Piece}
use Rattle.op_model.specs.declared.operation.UndoCount.{UndoCount}
use Rattle.op_model.specs.declared.operation.Operation.{Operation}
use Rattle.op_model.specs.declared.operation.Operation.TheVariants.{Edit, Undo}
use Rattle.op_model.specs.declared.limits.Limits.{Limits as LimitsType}
use Rattle.op_model.specs.declared.faults.EditFault.{EditFault}
use Rattle.op_model.specs.declared.faults.UndoFault.{UndoFault}
use Rattle.op_model.specs.declared.faults.UndoFault.TheVariants.{NoSuchEdit, Twice, CountEnd, ClockEnd, Full}
use Rattle.op_model.specs.Choice.{first_of, when}
use Rattle.op_model.specs.Histories.{History, version, clock, has_edit}
use Rattle.op_model.specs.Limited.{excess}
use Rattle.op_model.specs.Edits.{edit_fault}
use Rattle.op_model.specs.Cells.{Cell, seq, cells}
use Rattle.op_model.specs.Shown.{count, shows, text}

-- the number of all cells of s before shown cell o, or of all where there is none
abbrev pub full_offset : (Cell → Bool) → List Cell → ℕ → ℕ
full_offset is_shown [] o = 0
full_offset is_shown (c ∷ s) zero = if is_shown c then 0 else suc (full_offset is_shown s zero)
full_offset is_shown (c ∷ s) (suc o) = suc (full_offset is_shown s (if is_shown c then o else suc o))

-- a piece, without fault against text(h), taken to full offsets: an empty range stays empty, another ends one past its
-- last shown cell
abbrev pub full_piece : History → Piece → Piece
full_piece h p =
    let at : (o : ℕ) → ℕ = λ o. full_offset (shows h) (cells (seq h)) o in
    record { start = at p.start; end = if p.start == p.end then at p.start else suc (at (p.end - 1)); text = p.text }

-- the edit that replica r, 1 to 1023, makes at h, where it meets no fault
unfoldable pub local_edit : History → ℕ → List Piece → Operation
local_edit h r ps = Edit (record {
  stamp = record { value = clock h; replica = r };
  version = version h;
  pieces = map (full_piece h) ps;
})

abbrev pub next_count : History → Lamport → UndoCount
next_count h t = record { edit = t; count = count h t + 1 }

-- the undo of the edits that replica r, 1 to 1023, makes at h, where it meets no fault
unfoldable pub local_undo : History → ℕ → List Lamport → Operation
local_undo h r ts = Undo (record {
  stamp = record { value = clock h; replica = r };
  version = version h;
  counts = map (next_count h) ts;
})

-- the first stamp that stands in the list before too
abbrev pub first_twice : List Lamport → List Lamport → Option Lamport
first_twice past [] = None
first_twice past (t ∷ ts) = if list_any (same_stamp t) past then Some t else first_twice (t ∷ past) ts

-- the fault that a local edit meets at h
abbrev pub local_edit_fault : LimitsType → History → List Piece → Option EditFault
local_edit_fault l h ps = edit_fault l h (text h) ps

-- the fault that a local undo meets at h
abbrev pub local_undo_fault : LimitsType → History → List Lamport → Option UndoFault
local_undo_fault l h ts = first_of (
    option_map NoSuchEdit (find (λ t. not (has_edit h t)) ts)
    ∷ option_map Twice (first_twice [] ts)
    ∷ option_map CountEnd (find (λ t. count h t == last_value) ts)
    ∷ when (clock h == last_value) ClockEnd
    ∷ option_map (λ e. Full e.unit e.held e.adds) (excess l h 0 (1 + length ts))
    ∷ [])
