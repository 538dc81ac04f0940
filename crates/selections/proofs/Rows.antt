-- Worked rows of selections.
use Rattle.std.proofs.Common.{◌≡◌, ℕ, List, [], ◌∷◌, refl, Some, None, Ok, Err, map}
use Rattle.lamport_clock.specs.declared.stamp.Lamport.{Lamport}
use Rattle.lamport_clock.specs.Stamps.{later, same_stamp}
use Rattle.op_model.specs.declared.operation.Operation.TheVariants.{Edit}
use Rattle.op_model.specs.declared.anchor.Anchor.TheVariants.{Greatest, At}
use Rattle.op_model.specs.declared.anchor.Bias.TheVariants.{Left, Right}
use Rattle.op_model.specs.Anchors.{is_known, left_anchor, place, right_anchor}
use Rattle.op_model.specs.Cells.{same_cell, seq, seq_where, sibling_first}
use Rattle.op_model.specs.Histories.{History, base}
use Rattle.op_model.specs.Laid.{replay}
use Rattle.op_model.specs.Shown.{deleters_where, full, full_where, shows, shows_where, text, text_where}
use Rattle.selections.specs.declared.selection.Selection.{Selection}
use Rattle.selections.specs.declared.selection.SelectionOp.{SelectionOp}
use Rattle.selections.specs.declared.faults.SelTook.TheVariants.{Old, Repeat, Set}
use Rattle.selections.specs.declared.faults.SelFault.TheVariants.{BadStamp, Conflict}
use Rattle.selections.specs.declared.faults.SetFault.TheVariants.{ClockEnd, InsideChar, PastEnd, Reversed}
use Rattle.selections.specs.declared.faults.PlacesFault.TheVariants.{Unknown}
use Rattle.selections.specs.Places.{places_of}
use Rattle.selections.specs.Setting.{selection_of, set_fault}
use Rattle.selections.specs.Sets.{SelectionState, keep, kept_for, new_state}
use Rattle.selections.specs.Taking.{answer}

unfoldable open_all : ℕ
unfolding later same_stamp same_cell sibling_first seq_where seq replay deleters_where shows_where shows text_where text full_where full left_anchor right_anchor place is_known
open_all = 0

abbrev stamp : ℕ → ℕ → Lamport
stamp v r = record { value = v; replica = r }

-- ab, and then aXb
abbrev start : History
start = base (97 ∷ 98 ∷ []) ∷ []

abbrev x_in : History
x_in = base (97 ∷ 98 ∷ []) ∷ Edit (record { stamp = stamp 2 2; version = (0, 1) ∷ []; pieces = record { start = 1; end = 1; text = 88 ∷ [] } ∷ [] }) ∷ []

-- a caret before b, and both letters
abbrev caret : Selection
caret = record { start = At (stamp 1 0) 1 Right; end = At (stamp 1 0) 1 Right }

abbrev letters : Selection
letters = record { start = At (stamp 1 0) 0 Right; end = At (stamp 1 0) 2 Left }

abbrev by_one : ℕ → List Selection → SelectionOp
by_one v rs = record { stamp = stamp v 1; ranges = rs }

selected : map (selection_of start) ((1, 1) ∷ (0, 2) ∷ []) ≡ map (λ (r : Selection). Some r) (caret ∷ letters ∷ [])
unfolding open_all
selected = refl

-- at the end of the text a caret is the greatest anchor
selected_at_the_end : selection_of start (2, 2) ≡ Some (record { start = Greatest; end = Greatest })
unfolding open_all
selected_at_the_end = refl

-- text put at a caret is before it, and text put inside a range is in it
places : (places_of start (Some (by_one 1 (caret ∷ letters ∷ []))) ≡ Ok (Some ((1, 1) ∷ (0, 2) ∷ []))) × (places_of x_in (Some (by_one 1 (caret ∷ letters ∷ []))) ≡ Ok (Some ((2, 2) ∷ (0, 3) ∷ [])))
unfolding open_all
places = (refl, refl)

-- the second range names a byte of the edit
unknown : places_of start (Some (by_one 1 (caret ∷ record { start = At (stamp 2 2) 0 Right; end = Greatest } ∷ []))) ≡ Err (Unknown 1)
unfolding open_all
unknown = refl

nothing : places_of start None ≡ Ok None
nothing = refl

-- reversed ranges come before those past the end, whatever their places
faults : (set_fault (new_state 1) start ((2, 1) ∷ []) ≡ Some (Reversed 0)) × (set_fault (new_state 1) start ((0, 3) ∷ (1, 0) ∷ []) ≡ Some (Reversed 1)) × (set_fault (new_state 1) start ((0, 1) ∷ (0, 3) ∷ []) ≡ Some (PastEnd 1 2))
    × (set_fault (record { replica = 1; clock = 4294967295; kept = [] }) start [] ≡ Some ClockEnd) × (set_fault (new_state 1) start ((1, 1) ∷ (0, 2) ∷ []) ≡ None)
unfolding open_all
faults = (refl, refl, refl, refl, refl)

-- the second byte continues a character
inside : set_fault (new_state 1) (base (195 ∷ 169 ∷ []) ∷ []) ((0, 0) ∷ (1, 2) ∷ []) ≡ Some (InsideChar 1)
unfolding open_all
inside = refl

-- 2.1 is kept
abbrev later_kept : SelectionState
later_kept = keep (by_one 2 (caret ∷ [])) (new_state 2)

answers : (answer later_kept (by_one 1 []) ≡ Ok (Old (stamp 2 1))) × (answer later_kept (by_one 2 (caret ∷ [])) ≡ Ok Repeat) × (answer later_kept (by_one 2 []) ≡ Err (Conflict (stamp 2 1))) × (answer later_kept (by_one 3 []) ≡ Ok Set)
unfolding open_all
answers = (refl, refl, refl, refl)

bad : (answer later_kept (by_one 0 []) ≡ Err BadStamp) × (answer later_kept (by_one 4294967295 []) ≡ Err BadStamp) × (answer later_kept (record { stamp = stamp 3 0; ranges = [] }) ≡ Err BadStamp) × (answer later_kept (record { stamp = stamp 3 1024; ranges = [] }) ≡ Err BadStamp)
bad = (refl, refl, refl, refl)

kept : (later_kept.clock ≡ 3) × (kept_for 1 later_kept ≡ Some (by_one 2 (caret ∷ []))) × (kept_for 2 later_kept ≡ None)
kept = (refl, refl, refl)
