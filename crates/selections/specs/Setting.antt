-- Ranges of a text that a replica selects.
use Rattle.std.specs.Prelude.{ℕ, ◌==◌, ◌&&◌, not, nat_lt, Bool, if◌then◌else◌, List, [], ◌∷◌, length, Option, None, Some, option_map}
use Rattle.std.specs.List.{position}
use Rattle.lamport_clock.specs.Clocks.{last_value}
use Rattle.lamport_clock.specs.declared.stamp.Lamport.{Lamport}
use Rattle.op_model.specs.Choice.{first_of, when}
use Rattle.op_model.specs.Edits.{is_boundary}
use Rattle.op_model.specs.Histories.{History}
use Rattle.op_model.specs.Shown.{text}
use Rattle.op_model.specs.declared.anchor.Anchor.{Anchor}
use Rattle.op_model.specs.declared.anchor.Bias.TheVariants.{Left, Right}
use Rattle.anchors.specs.Making.{made_anchor}
use Rattle.selections.specs.declared.selection.Selection.{Selection}
use Rattle.selections.specs.declared.faults.SetFault.{SetFault}
use Rattle.selections.specs.declared.faults.SetFault.TheVariants.{Reversed, PastEnd, InsideChar, TooMany, ClockEnd}
use Rattle.selections.specs.Sets.{SelectionState, most_ranges}

abbrev pub is_reversed : ℕ × ℕ → Bool
is_reversed r = nat_lt r.1 r.0

abbrev pub is_past : ℕ → ℕ × ℕ → Bool
is_past len r = nat_lt len r.1

abbrev pub is_inside : List ℕ → ℕ × ℕ → Bool
is_inside text r = not (is_boundary text r.0 && is_boundary text r.1)

-- the first fault of ranges against a text, each at its least range
abbrev pub range_fault : List ℕ → List (ℕ × ℕ) → Option SetFault
range_fault text rs = first_of (
    option_map Reversed (position is_reversed rs)
    ∷ option_map (λ i. PastEnd i (length text)) (position (is_past (length text)) rs)
    ∷ option_map InsideChar (position (is_inside text) rs)
    ∷ [])

-- the fault that ranges meet
abbrev pub set_fault : SelectionState → History → List (ℕ × ℕ) → Option SetFault
set_fault s h rs = first_of (
    range_fault (text h) rs
    ∷ when (nat_lt most_ranges (length rs)) (TooMany (length rs))
    ∷ when (s.clock == last_value) ClockEnd
    ∷ [])

-- the next stamp of the replica itself
abbrev pub own_stamp : SelectionState → Lamport
own_stamp s = record { value = s.clock; replica = s.replica }

-- a selection with both anchors
abbrev pub both : Option Anchor → Option Anchor → Option Selection
both None b = None
both (Some a) None = None
both (Some a) (Some b) = Some (record { start = a; end = b })

-- the selection of a range: its start keeps to the byte after it, and its end to the byte before it, unless it is empty
abbrev pub selection_of : History → ℕ × ℕ → Option Selection
selection_of h r = both (made_anchor h r.0 Right) (made_anchor h r.1 (if r.0 == r.1 then Right else Left))
