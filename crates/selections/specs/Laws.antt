-- The laws of selections, which src/laws.rt shows.
use Rattle.std.specs.Prelude.{◌≡◌, ℕ, ◌<◌, ◌≤◌, ◌≢◌, ◌↔◌, true, false, List, [], ◌∷◌, length, Option, None, Some, Ok}
use Rattle.lamport_clock.specs.Clocks.{last_value}
use Rattle.lamport_clock.specs.Stamps.{later}
use Rattle.op_model.specs.Domains.{IsReplica}
use Rattle.op_model.specs.Sorted.{Member}
use Rattle.selections.specs.declared.selection.SelectionOp.{SelectionOp}
use Rattle.selections.specs.declared.faults.SelTook.{SelTook}
use Rattle.selections.specs.Same.{same_operation}
use Rattle.selections.specs.Sets.{SelectionState, keep, kept_for, most_ranges, new_state}
use Rattle.selections.specs.Setting.{own_stamp}
use Rattle.selections.specs.Taking.{after_answer, answer}

-- the test of operations says which are equal
abbrev pub EqualSelectionsAreSame : Type 0
EqualSelectionsAreSame = (a b : SelectionOp) → (same_operation a b ≡ true) ↔ (a ≡ b)

-- an operation that is kept is the one of its author, and those of the others stay
abbrev pub OneAuthorChanges : Type 0
OneAuthorChanges = (op : SelectionOp) → (s : SelectionState)
    → (kept_for op.stamp.replica (keep op s) ≡ Some op)
    × ((a : ℕ) → a ≢ op.stamp.replica → kept_for a (keep op s) ≡ kept_for a s)

-- a call of sets: `set` returned the operation, `take` answered to it, or one of them answered with an error
pub data Call : Type 0 where
  Made : SelectionOp → Call
  Took : SelectionOp → SelTook → Call
  Refused : Call

-- the call leaves n of s
abbrev pub IsCall : Call → SelectionState → SelectionState → Type 0
IsCall (Made op) s n = (op.stamp ≡ own_stamp s) × (s.clock < last_value) × (length op.ranges ≤ most_ranges)
    × (n ≡ keep op s)
IsCall (Took op t) s n = (op.stamp.value ≤ last_value) × (answer s op ≡ Ok t) × (n ≡ after_answer t op s)
IsCall Refused s n = n ≡ s

-- the calls, one after the other, leave n of s
abbrev pub AreCalls : List Call → SelectionState → SelectionState → Type 0
AreCalls [] s n = n ≡ s
AreCalls (c ∷ cs) s n = (m : SelectionState) × IsCall c s m × AreCalls cs m n

-- the operations that were made and taken
abbrev pub operations : List Call → List SelectionOp
operations [] = []
operations (Made op ∷ cs) = op ∷ operations cs
operations (Took op t ∷ cs) = op ∷ operations cs
operations (Refused ∷ cs) = operations cs

-- of the author's operations in the list this is the one with the greatest stamp, if there is any
abbrev pub IsNewest : ℕ → List SelectionOp → Option SelectionOp → Type 0
IsNewest a ops None = (op : SelectionOp) → Member op ops → op.stamp.replica ≢ a
IsNewest a ops (Some k) = Member k ops × (k.stamp.replica ≡ a)
    × ((op : SelectionOp) → Member op ops → op.stamp.replica ≡ a → later op.stamp k.stamp ≡ false)

-- whatever calls a new set has, it keeps for each author the newest of the operations that it made and took
abbrev pub NewestAreKept : Type 0
NewestAreKept = (r : ℕ) → IsReplica r → (cs : List Call) → (s : SelectionState) → AreCalls cs (new_state r) s
    → (a : ℕ) → IsNewest a (operations cs) (kept_for a s)

-- both lists have the same operations
abbrev pub SameOperations : List SelectionOp → List SelectionOp → Type 0
SameOperations ops others = (op : SelectionOp) → (Member op ops → Member op others) × (Member op others → Member op ops)

-- no two operations have one stamp
abbrev pub OneOfEachStamp : List SelectionOp → Type 0
OneOfEachStamp ops = (a b : SelectionOp) → Member a ops → Member b ops → a.stamp ≡ b.stamp → a ≡ b

-- two new sets that made or took the same operations keep the same
abbrev pub SameOperationsSameKept : Type 0
SameOperationsSameKept = (r q : ℕ) → IsReplica r → IsReplica q → (cs ds : List Call) → (s n : SelectionState)
    → AreCalls cs (new_state r) s → AreCalls ds (new_state q) n
    → SameOperations (operations cs) (operations ds) → OneOfEachStamp (operations cs) → s.kept ≡ n.kept
