-- Worked rows of what waits.
use Rattle.std.proofs.Common.{◌≡◌, refl, ℕ, List, [], ◌∷◌, Some, None}
use Rattle.lamport_clock.specs.declared.stamp.Lamport.{Lamport}
use Rattle.lamport_clock.specs.Stamps.{later, same_stamp}
use Rattle.op_model.specs.declared.operation.Operation.{Operation}
use Rattle.op_model.specs.declared.operation.Operation.TheVariants.{Edit, Undo}
use Rattle.op_model.specs.Sorted.{insert_by}
use Rattle.op_model.specs.Histories.{operation_at}
use Rattle.op_model.specs.Steps.{older, without}
use Rattle.deferred_ops.specs.Deferred.{least_ready}

abbrev at : ℕ → ℕ → Lamport
at v r = record { value = v; replica = r }

-- 2.1 is the base's alone, 3.1 has seen it, 3.2 is an undo that has seen 2.1 too
abbrev first : Operation
first = Edit (record { stamp = at 2 1; version = (0, 1) ∷ []; pieces = [] })

abbrev second : Operation
second = Edit (record { stamp = at 3 1; version = (0, 1) ∷ (1, 2) ∷ []; pieces = [] })

abbrev other : Operation
other = Undo (record { stamp = at 3 2; version = (0, 1) ∷ (1, 2) ∷ []; counts = [] })

abbrev waiting : List Operation
waiting = first ∷ second ∷ other ∷ []

by_stamp : insert_by older second (first ∷ other ∷ []) ≡ waiting
unfolding later
by_stamp = refl

ready_at_base : least_ready None ((0, 1) ∷ []) waiting ≡ Some first
unfolding later
ready_at_base = refl

ready_past : (least_ready (Some (at 2 1)) ((0, 1) ∷ (1, 2) ∷ []) waiting ≡ Some second) × (least_ready (Some (at 3 1)) ((0, 1) ∷ (1, 2) ∷ []) waiting ≡ Some other) × (least_ready (Some (at 2 1)) ((0, 1) ∷ []) waiting ≡ None)
unfolding later
ready_past = (refl, refl, refl)

taken_out : (without (at 3 1) waiting ≡ first ∷ other ∷ []) × (operation_at waiting (at 3 2) ≡ Some other) × (operation_at waiting (at 2 3) ≡ None)
unfolding same_stamp
taken_out = (refl, refl, refl)
