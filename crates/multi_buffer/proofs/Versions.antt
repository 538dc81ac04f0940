-- Versions that have the same entries.
use Rattle.std.proofs.Common.{◌≡◌, ℕ, ◌≤◌, true, arith}
use Rattle.lamport_clock.specs.Versions.{Entries, IsVersion, entry, within}
use Rattle.lamport_clock.proofs.Associative.{are_entries}
use Rattle.lamport_clock.proofs.EntryLists.{entries_same}
use Rattle.lamport_clock.proofs.Joined.{entry_within}

-- versions that lie within one another are one
pub within_both : (u v : Entries) → IsVersion u → IsVersion v → within u v ≡ true → within v u ≡ true → u ≡ v
within_both u v i j a b =
    entries_same 0 u v (are_entries 0 u i) (are_entries 0 v j) (λ r. both (entry u r) (entry v r) (entry_within u v r a) (entry_within v u r b))
  where
    both : (p q : ℕ) → p ≤ q → q ≤ p → p ≡ q
    both p q l m = omega arith
