-- A history: a list of operations with distinct stamps, the base first.
use Rattle.std.specs.Prelude.{◌≡◌, ℕ, ◌+◌, ◌==◌, ◌&&◌, not, Bool, if◌then◌else◌, List, [], ◌∷◌, reverse, Option}
use Rattle.std.specs.List.{filter, find, list_any}
use Rattle.lamport_clock.specs.declared.stamp.Lamport.{Lamport}
use Rattle.lamport_clock.specs.Clocks.{clock_after}
use Rattle.lamport_clock.specs.Stamps.{later, same_stamp}
use Rattle.lamport_clock.specs.Versions.{Entries, raise, sees}
use Rattle.op_model.specs.declared.operation.Operation.{Operation}
use Rattle.op_model.specs.declared.operation.Operation.TheVariants.{Edit}
use Rattle.op_model.specs.Operations.{stamp_of, bytes_of, entries_of, is_edit}
use Rattle.op_model.specs.Sorted.{insert_by, EachPair, Member}

abbrev pub History : Type 0
History = List Operation

-- the base: edit 1.0 with an empty version and one piece 0..0
abbrev pub base : List ℕ → Operation
base t = Edit (record {
  stamp = record { value = 1; replica = 0 };
  version = [];
  pieces = record { start = 0; end = 0; text = t } ∷ [];
})

-- the greatest value for each replica
abbrev pub version : History → Entries
version [] = []
version (op ∷ h) = raise (version h) (stamp_of op)

-- the clock that stood at c and observed the stamps of h in turn
abbrev pub clock_from : ℕ → History → ℕ
clock_from c [] = c
clock_from c (op ∷ h) = clock_from (clock_after c (stamp_of op).value) h

abbrev pub clock : History → ℕ
clock h = clock_from 1 h

-- the bytes of all new texts, the base's too
abbrev pub bytes_held : History → ℕ
bytes_held [] = 0
bytes_held (op ∷ h) = bytes_of op + bytes_held h

-- the entries of all operations; one of replica 0 adds none, and in a lawful history the base alone is of replica 0
abbrev pub entries_held : History → ℕ
entries_held [] = 0
entries_held (op ∷ h) = if (stamp_of op).replica == 0 then entries_held h else entries_of op + entries_held h

-- the operation that has the stamp
abbrev pub operation_at : History → Lamport → Option Operation
operation_at h t = find (λ o. same_stamp (stamp_of o) t) h

-- t is an edit of h
abbrev pub has_edit : History → Lamport → Bool
has_edit h t = list_any (λ o. is_edit o && same_stamp (stamp_of o) t) h

-- the part of h whose stamps pass
abbrev pub kept_history : (Lamport → Bool) → History → History
kept_history keep h = filter (λ o. keep (stamp_of o)) h

-- the part of h that v sees
abbrev pub seen_history : History → Entries → History
seen_history h v = kept_history (sees v) h

-- op is one of h
abbrev pub In : History → Operation → Type 0
In h op = Member op h

-- h and g have the same operations
abbrev pub SameSet : History → History → Type 0
SameSet h g = (op : Operation) → (In h op → In g op) × (In g op → In h op)

-- no two operations have one stamp
abbrev pub Distinct : History → Type 0
Distinct h = EachPair (λ o p. stamp_of p ≡ stamp_of o → ⊥) h

-- a stands before b where stamps descend
abbrev pub newer : Operation → Operation → Bool
newer a b = not (later (stamp_of b) (stamp_of a))

-- op put into h, whose stamps descend
abbrev pub by_stamp : Operation → History → History
by_stamp op h = insert_by newer op h

abbrev pub sort_onto : History → History → History
sort_onto d [] = d
sort_onto d (op ∷ h) = sort_onto (by_stamp op d) h

-- h by stamps, the greatest first
abbrev pub newest_first : History → History
newest_first h = sort_onto [] h

-- h by stamps, the least first
abbrev pub oldest_first : History → History
oldest_first h = reverse (newest_first h)
