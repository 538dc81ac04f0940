-- What waits: a list of operations whose stamps ascend.
use Rattle.std.specs.Prelude.{◌≡◌, ◌⊎◌, ◌<◌, ◌≤◌, ℕ, Bool, true, false, ◌&&◌, if◌then◌else◌, List, Option, Some, None}
use Rattle.std.specs.List.{find, AllByRecursion}
use Rattle.std.specs.Ordering.{nat_cmp, ordering_then}
use Rattle.std.specs.declared.cmp.Ordering.{Ordering}
use Rattle.std.specs.BTreeMap.{is_at}
use Rattle.std.specs.BTreeSet.{BTreeSet, contains}
use Rattle.std.specs.declared.ops.Bound.{Bound}
use Rattle.std.specs.declared.ops.Bound.TheVariants.{Excluded, Unbounded}
use Rattle.lamport_clock.specs.declared.stamp.Lamport.{Lamport}
use Rattle.lamport_clock.specs.Stamps.{later, same_stamp, stamp_cmp}
use Rattle.lamport_clock.specs.Versions.{Entries, within}
use Rattle.op_model.specs.Sorted.{Member}
use Rattle.op_model.specs.declared.operation.Operation.{Operation}
use Rattle.op_model.specs.Operations.{stamp_of, version_of}
use Rattle.op_model.specs.Histories.{operation_at}

-- the operation is past a stamp, or there is no such stamp
abbrev pub is_past : Option Lamport → Operation → Bool
is_past None op = true
is_past (Some t) op = later (stamp_of op) t

-- the least operation past a stamp
abbrev pub least_past : Option Lamport → List Operation → Option Operation
least_past after w = find (is_past after) w

-- a replica that has seen `have` misses nothing that the operation's version sees
abbrev pub misses_nothing : Entries → Operation → Bool
misses_nothing have op = within (version_of op) have

-- the least operation past a stamp that misses nothing
abbrev pub least_ready : Option Lamport → Entries → List Operation → Option Operation
least_ready after have w = find (λ o. is_past after o && misses_nothing have o) w

-- ---- for private clauses

-- each operation stands at its stamp
abbrev pub AreKeyed : List (Lamport × Operation) → Type 0
AreKeyed es = AllByRecursion (λ e. e.0 ≡ stamp_of e.1) es

-- where the keys past a stamp start
abbrev pub start_past : Option Lamport → Bound Lamport
start_past None = Unbounded
start_past (Some t) = Excluded t

-- ---- causes, in the order of replicas, then of values

-- an operation of the stamp sees the replica up to that value
abbrev pub Cause : Type 0
Cause = ℕ × ℕ × Lamport

abbrev pub cause_order : Cause → Cause → Ordering
cause_order a b = ordering_then (ordering_then (nat_cmp a.0 b.0) (nat_cmp a.1 b.1)) (stamp_cmp a.2 b.2)

abbrev pub Causes : Type 0
Causes = BTreeSet Cause

abbrev pub has_cause : Causes → Cause → Bool
has_cause s c = contains cause_order s c

-- a cause of the operation is listed
abbrev pub IsListed : Causes → Operation → Type 0
IsListed s op = (r : ℕ) × (x : ℕ) × (has_cause s (r, x, stamp_of op) ≡ true) × (0 < x) × Member (r, x) (version_of op)

-- of each operation that waits a cause is listed
abbrev pub AreListed : Causes → List Operation → Type 0
AreListed s w = AllByRecursion (IsListed s) w

-- the cause is an entry of the version of an operation that waits
abbrev pub IsOfWaiting : List Operation → Cause → Type 0
IsOfWaiting w q = (op : Operation) × (operation_at w q.2 ≡ Some op) × Member (q.0, q.1) (version_of op)

-- each listed cause is of an operation that waits
abbrev pub AreOfWaiting : Causes → List Operation → Type 0
AreOfWaiting s w = (q : Cause) → has_cause s q ≡ true → IsOfWaiting w q

-- no cause of the operation is listed
abbrev pub NoneListed : Causes → Operation → Type 0
NoneListed s op = (r : ℕ) → (x : ℕ) → Member (r, x) (version_of op) → has_cause s (r, x, stamp_of op) ≡ false

-- no listed cause is one of the replica up to that value
abbrev pub NoneSeen : Causes → ℕ × ℕ → Type 0
NoneSeen s e = (x : ℕ) → (t : Lamport) → x ≤ e.1 → has_cause s (e.0, x, t) ≡ false

-- no cause goes
abbrev pub KeepsCauses : Causes → Causes → Type 0
KeepsCauses s n = (q : Cause) → has_cause s q ≡ true → has_cause n q ≡ true

-- no cause of an operation of another stamp goes
abbrev pub KeepsOthers : Lamport → Causes → Causes → Type 0
KeepsOthers t s n = (q : Cause) → same_stamp q.2 t ≡ false → has_cause s q ≡ true → has_cause n q ≡ true

-- no cause comes but one of the operation
abbrev pub AddsCauses : Operation → Causes → Causes → Type 0
AddsCauses op s n = (q : Cause) → has_cause n q ≡ true
    → (has_cause s q ≡ true) ⊎ ((q.2 ≡ stamp_of op) × Member (q.0, q.1) (version_of op))

-- a cause is listed in place of another
abbrev pub ListsFor : Causes → Causes → Cause → Cause → Type 0
ListsFor s n seen missed = (q : Cause) → has_cause n q
    ≡ (if is_at (cause_order missed) q then true
    else (if is_at (cause_order seen) q then false else has_cause s q))

-- no operation of the list is ready
abbrev pub NoneReady : Entries → List Operation → Type 0
NoneReady have w = (after : Option Lamport) → least_ready after have w ≡ None
