-- Worked rows of excerpts.
use Rattle.std.proofs.Common.{◌≡◌, ℕ, List, [], ◌∷◌, refl, Some, None}
use Rattle.lamport_clock.specs.Stamps.{later, same_stamp}
use Rattle.op_model.specs.declared.operation.Operation.TheVariants.{Edit}
use Rattle.op_model.specs.Anchors.{left_anchor, place, right_anchor}
use Rattle.op_model.specs.Cells.{same_cell, seq, seq_where, sibling_first}
use Rattle.op_model.specs.Histories.{History, base}
use Rattle.op_model.specs.Shown.{deleters_where, shows, shows_where, text, text_where}
use Rattle.multi_buffer.specs.declared.faults.PushFault.TheVariants.{InsideChar, PastEnd, Reversed}
use Rattle.multi_buffer.specs.State.{MultiState, multi_text, new_state}
use Rattle.multi_buffer.specs.Calls.{after_push, after_sync, push_fault}
use Rattle.multi_buffer.specs.Places.{to_multi, to_source}

unfoldable open_all : ℕ
unfolding later same_stamp same_cell sibling_first seq_where seq deleters_where shows_where shows text_where text left_anchor right_anchor place
open_all = 0

-- abc, an LF and def
abbrev letters : List ℕ
letters = 97 ∷ 98 ∷ 99 ∷ 10 ∷ 100 ∷ 101 ∷ 102 ∷ []

abbrev start : History
start = base letters ∷ []

-- X is put at 2, and d is deleted
abbrev x_in : History
x_in = base letters ∷ Edit (record { stamp = record { value = 2; replica = 1 }; version = (0, 1) ∷ []; pieces = record { start = 2; end = 2; text = 88 ∷ [] } ∷ [] }) ∷ []

abbrev d_out : History
d_out = base letters ∷ Edit (record { stamp = record { value = 2; replica = 2 }; version = (0, 1) ∷ []; pieces = record { start = 4; end = 5; text = [] } ∷ [] }) ∷ []

-- ab of buffer 1, and def of buffer 2
abbrev two : MultiState
two = after_push 2 start 4 7 (after_push 1 start 0 2 new_state)

shown : multi_text two ≡ 97 ∷ 98 ∷ 10 ∷ 100 ∷ 101 ∷ 102 ∷ []
unfolding open_all
shown = refl

-- text that is put at an end is in the excerpt
synced : multi_text (after_sync 2 d_out (after_sync 1 x_in two)) ≡ 97 ∷ 98 ∷ 88 ∷ 10 ∷ 101 ∷ 102 ∷ []
unfolding open_all
synced = refl

-- both ends of an excerpt are in it, and the LF lies between two
sources : (to_source two 2 ≡ Some (record { excerpt = 0; buffer = 1; offset = 2 })) × (to_source two 3 ≡ Some (record { excerpt = 1; buffer = 2; offset = 4 })) × (to_source two 6 ≡ Some (record { excerpt = 1; buffer = 2; offset = 7 })) × (to_source two 7 ≡ None)
unfolding open_all
sources = (refl, refl, refl, refl)

multis : (to_multi two 0 2 ≡ Some 2) × (to_multi two 1 4 ≡ Some 3) × (to_multi two 1 3 ≡ None) × (to_multi two 0 3 ≡ None) × (to_multi two 2 0 ≡ None)
unfolding open_all
multis = (refl, refl, refl, refl, refl)

-- without excerpts there is a text, and no place
nothing : (multi_text new_state ≡ []) × (to_source new_state 0 ≡ None)
nothing = (refl, refl)

faults : (push_fault letters 2 1 ≡ Some (Reversed 0)) × (push_fault letters 0 8 ≡ Some (PastEnd 0 7)) × (push_fault (195 ∷ 169 ∷ []) 0 1 ≡ Some (InsideChar 0)) × (push_fault letters 7 7 ≡ None)
faults = (refl, refl, refl, refl)
