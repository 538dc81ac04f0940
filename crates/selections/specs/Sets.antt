-- What contracts see of the sets of a replica.
use Rattle.std.specs.Prelude.{◌≡◌, ℕ, suc, ◌<◌, ◌≤◌, ◌==◌, Bool, nat_lt, if◌then◌else◌, List, [], ◌∷◌, length, Option}
use Rattle.std.specs.List.{AllByRecursion, AllWithin, HoldsAt, find}
use Rattle.lamport_clock.specs.Clocks.{clock_after, last_value}
use Rattle.op_model.specs.Operations.{last_replica}
use Rattle.selections.specs.declared.selection.SelectionOp.{SelectionOp}

-- the most ranges of an operation
abbrev pub most_ranges : ℕ
most_ranges = 1024

-- the replica, the value of its clock, and the operations that are kept, in ascending order of their authors
pub record SelectionState : Type 0 where
  pub replica : ℕ
  pub clock : ℕ
  pub kept : List SelectionOp

-- nothing is selected yet
abbrev pub new_state : ℕ → SelectionState
new_state r = record { replica = r; clock = 1; kept = [] }

-- the operation is the author's
abbrev pub is_of : ℕ → SelectionOp → Bool
is_of a op = op.stamp.replica == a

-- the author's operation in a list
abbrev pub find_of : ℕ → List SelectionOp → Option SelectionOp
find_of a ks = find (is_of a) ks

-- the operation that is kept for an author
abbrev pub kept_for : ℕ → SelectionState → Option SelectionOp
kept_for a s = find_of a s.kept

-- op in place of its author's, or before those of greater authors
abbrev pub put : SelectionOp → List SelectionOp → List SelectionOp
put op [] = op ∷ []
put op (k ∷ ks) = if nat_lt k.stamp.replica op.stamp.replica then k ∷ put op ks
    else (if is_of op.stamp.replica k then op ∷ ks else op ∷ k ∷ ks)

-- the sets keep op for its author, and their clock observes its stamp
abbrev pub keep : SelectionOp → SelectionState → SelectionState
keep op s = record { replica = s.replica; clock = clock_after s.clock op.stamp.value; kept = put op s.kept }

-- the authors ascend from n on
abbrev pub AscendFrom : ℕ → List SelectionOp → Type 0
AscendFrom n [] = Unit {0}
AscendFrom n (k ∷ ks) = (n ≤ k.stamp.replica) × AscendFrom (suc k.stamp.replica) ks

-- what is true of every operation that a replica makes
pub record IsMade (op : SelectionOp) : Type 0 where
  pub least_author : 1 ≤ op.stamp.replica
  pub greatest_author : op.stamp.replica ≤ last_replica
  pub least_value : 1 ≤ op.stamp.value
  pub greatest_value : op.stamp.value < last_value
  pub few : length op.ranges ≤ most_ranges

-- what is true of all sets: their clock is past every stamp that they keep
pub record IsSelectionState (s : SelectionState) : Type 0 where
  pub least_replica : 1 ≤ s.replica
  pub greatest_replica : s.replica ≤ last_replica
  pub least_clock : 1 ≤ s.clock
  pub greatest_clock : s.clock ≤ last_value
  pub ascending : AscendFrom 1 s.kept
  pub made : AllByRecursion IsMade s.kept
  pub past : AllByRecursion (λ (k : SelectionOp). k.stamp.value < s.clock) s.kept

-- ---- for private clauses

-- the author's operation is at place i
pub record IsPlace (a : ℕ) (ks : List SelectionOp) (i : ℕ) : Type 0 where
  pub within : i < length ks
  pub author : HoldsAt (λ (k : SelectionOp). k.stamp.replica ≡ a) ks i

-- it would go to place i: lesser authors are before it, and greater ones from it on
pub record IsGap (a : ℕ) (ks : List SelectionOp) (i : ℕ) : Type 0 where
  pub within : i ≤ length ks
  pub lesser : AllWithin (λ (k : SelectionOp). k.stamp.replica < a) ks 0 i
  pub greater : AllWithin (λ (k : SelectionOp). a < k.stamp.replica) ks i (length ks)
