-- The fault that a local undo meets.
use Rattle.std.specs.Prelude.{◌==◌, List, [], ◌∷◌, not, Option, option_map}
use Rattle.std.specs.List.{find}
use Rattle.lamport_clock.specs.Clocks.{last_value}
use Rattle.lamport_clock.specs.declared.stamp.Lamport.{Lamport}
use Rattle.op_model.specs.declared.faults.UndoFault.{UndoFault}
use Rattle.op_model.specs.declared.faults.UndoFault.TheVariants.{NoSuchEdit, Twice, CountEnd}
use Rattle.op_model.specs.Choice.{first_of}
use Rattle.op_model.specs.Histories.{History, has_edit}
use Rattle.op_model.specs.Shown.{count}
use Rattle.op_model.specs.Made.{first_twice}

-- the fault that a local undo meets at h, but for those of the clock and the limits
abbrev pub listed_fault : History → List Lamport → Option UndoFault
listed_fault h ts = first_of (
    option_map NoSuchEdit (find (λ t. not (has_edit h t)) ts)
    ∷ option_map Twice (first_twice [] ts)
    ∷ option_map CountEnd (find (λ t. count h t == last_value) ts)
    ∷ [])
