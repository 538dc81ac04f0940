-- Worked rows: an edit of two ranges at "ab", and what passes the limits of a buffer over "abc".
use Rattle.std.proofs.Common.{◌≡◌, ℕ, refl, List, [], ◌∷◌, Some, None}
use Rattle.op_model.specs.declared.operation.Piece.{Piece}
use Rattle.op_model.specs.declared.endings.Endings.TheVariants.{AsIs, Lf}
use Rattle.op_model.specs.declared.operation.Operation.TheVariants.{Edit}
use Rattle.op_model.specs.declared.faults.EditFault.TheVariants.{Reversed, Overlap, PastEnd, InsideChar, Full}
use Rattle.op_model.specs.declared.faults.Unit.TheVariants.{Bytes, Entries}
use Rattle.op_model.specs.Histories.{version, clock, bytes_held, entries_held}
use Rattle.lamport_clock.specs.Stamps.{later, same_stamp}
use Rattle.op_model.specs.Cells.{same_cell, sibling_first, seq_where, seq}
use Rattle.op_model.specs.Shown.{deleters_where, shows_where, shows, text_where, text}
use Rattle.op_model.specs.Made.{local_edit as made_at}
use Rattle.text_buffer.specs.Buffer.{BufferState, base_under, over_base, edit_fault, after_edit, edit_of}

-- what the rows compute
unfoldable open_all : ℕ
unfolding later same_stamp same_cell sibling_first seq_where seq deleters_where shows_where shows text_where text made_at
open_all = 0

-- texts by their bytes: a 97, b 98, c 99, X 88, Y 89, x 120
abbrev ab : BufferState
ab = over_base 7 (base_under AsIs (97 ∷ 98 ∷ [])) (record { bytes = 1000; entries = 1000 })

abbrev xy : List Piece
xy = record { start = 1; end = 1; text = 88 ∷ [] } ∷ record { start = 1; end = 2; text = 89 ∷ [] } ∷ []

two_ranges : text (after_edit ab xy).history ≡ 97 ∷ 88 ∷ 89 ∷ []
unfolding open_all
two_ranges = refl

their_stamp : edit_of ab xy ≡ Edit (record { stamp = record { value = 2; replica = 7 }; version = (0, 1) ∷ []; pieces = xy })
unfolding open_all
their_stamp = refl

the_version_after : version (after_edit ab xy).history ≡ (0, 1) ∷ (7, 2) ∷ []
unfolding open_all
the_version_after = refl

held_after : (clock (after_edit ab xy).history ≡ 3) × (bytes_held (after_edit ab xy).history ≡ 4) × (entries_held (after_edit ab xy).history ≡ 3)
unfolding open_all
held_after = (refl, refl, refl)

reversed : edit_fault ab (record { start = 2; end = 1; text = [] } ∷ []) ≡ Some (Reversed 0)
unfolding open_all
reversed = refl

overlap : edit_fault ab (record { start = 0; end = 2; text = [] } ∷ record { start = 1; end = 1; text = 120 ∷ [] } ∷ []) ≡ Some (Overlap 1)
unfolding open_all
overlap = refl

past_end : edit_fault ab (record { start = 0; end = 9; text = [] } ∷ []) ≡ Some (PastEnd 0 2)
unfolding open_all
past_end = refl

inside_char : edit_fault (over_base 7 (base_under AsIs (195 ∷ 169 ∷ [])) (record { bytes = 9; entries = 9 })) (record { start = 1; end = 1; text = [] } ∷ []) ≡ Some (InsideChar 0)
unfolding open_all
inside_char = refl

abbrev few : BufferState
few = over_base 7 (base_under AsIs (97 ∷ 98 ∷ 99 ∷ [])) (record { bytes = 5; entries = 2 })

abbrev x_in_front : List Piece
x_in_front = record { start = 0; end = 0; text = 120 ∷ [] } ∷ []

full_of_bytes : edit_fault few (record { start = 0; end = 0; text = 120 ∷ 120 ∷ 120 ∷ [] } ∷ []) ≡ Some (Full Bytes 3 3)
unfolding open_all
full_of_bytes = refl

room_for_one : edit_fault few x_in_front ≡ None
unfolding open_all
room_for_one = refl

full_of_entries : edit_fault (after_edit few x_in_front) (record { start = 0; end = 1; text = [] } ∷ []) ≡ Some (Full Entries 2 2)
unfolding open_all
full_of_entries = refl

-- ---- line endings

-- "a\r\nb\rc" enters as "a\nb\nc"
abbrev lines : BufferState
lines = over_base 1 (base_under Lf (97 ∷ 13 ∷ 10 ∷ 98 ∷ 13 ∷ 99 ∷ [])) (record { bytes = 1000; entries = 1000 })

-- a CR at the end, as a text of its own
abbrev return_last : List Piece
return_last = record { start = 5; end = 5; text = 13 ∷ [] } ∷ []

a_return_enters : text (after_edit lines return_last).history ≡ 97 ∷ 10 ∷ 98 ∷ 10 ∷ 99 ∷ 10 ∷ []
unfolding open_all
a_return_enters = refl

-- the operation has the text as it entered
entered_in_the_operation : edit_of lines return_last ≡ Edit (record { stamp = record { value = 2; replica = 1 }; version = (0, 1) ∷ []; pieces = record { start = 5; end = 5; text = 10 ∷ [] } ∷ [] })
unfolding open_all
entered_in_the_operation = refl
