-- An index of fragments: entries ascending by stamp, then descending by offset.
use Rattle.std.specs.Prelude.{ℕ, ◌==◌, nat_le, nat_lt, Bool, false, ◌&&◌, if◌then◌else◌, List, [], ◌∷◌, Option, Some, None, option_map}
use Rattle.std.specs.Ordering.{nat_cmp, ordering_then}
use Rattle.std.specs.Cmp.{IsTotalOrder}
use Rattle.std.specs.declared.cmp.Ordering.{Ordering}
use Rattle.std.proofs.lemmas.Cmp.{nat_cmp_total, on_total, back_total, then_total}
use Rattle.sum_tree.specs.Keyed.{Ascending, insert_item}
use Rattle.tree_cursor.specs.Keys.{cmp_less}
use Rattle.lamport_clock.specs.declared.stamp.Lamport.{Lamport}
use Rattle.lamport_clock.specs.Stamps.{same_stamp, stamp_cmp, stamp_order}
use Rattle.fragments.specs.declared.index_entry.IndexKey.{IndexKey}
use Rattle.fragments.specs.declared.index_entry.IndexEntry.{IndexEntry}

abbrev pub key_of : IndexEntry → IndexKey
key_of e = record { stamp = e.stamp; offset = record { 0 = e.offset } }

-- by stamp, then by offset, the greatest first
abbrev pub key_cmp : IndexKey → IndexKey → Ordering
key_cmp a b = ordering_then (stamp_cmp a.stamp b.stamp) (nat_cmp b.offset.0 a.offset.0)

-- the keys ascend
abbrev pub IsAscending : List IndexEntry → Type 0
IsAscending w = Ascending key_cmp key_of w

-- w with an entry, which replaces the one with its key
abbrev pub with_entry : IndexEntry → List IndexEntry → List IndexEntry
with_entry e w = insert_item key_cmp key_of e w

-- w with entries, one after the other
abbrev pub with_entries : List IndexEntry → List IndexEntry → List IndexEntry
with_entries [] w = w
with_entries (e ∷ es) w = with_entries es (with_entry e w)

-- the entry begins at cell o of edit t or before it
abbrev pub covers : Lamport → ℕ → IndexEntry → Bool
covers t o e = same_stamp e.stamp t && nat_le e.offset o

-- of two entries the one with the greater offset
abbrev pub nearest : IndexEntry → Option IndexEntry → IndexEntry
nearest e None = e
nearest e (Some f) = if nat_lt e.offset f.offset then f else e

-- the entry of edit t with the greatest offset at most o
abbrev pub entry_for : Lamport → ℕ → List IndexEntry → Option IndexEntry
entry_for t o [] = None
entry_for t o (e ∷ w) = if covers t o e then Some (nearest e (entry_for t o w)) else entry_for t o w

-- its id
abbrev pub id_for : Lamport → ℕ → List IndexEntry → Option (List ℕ)
id_for t o w = option_map (λ e. e.id) (entry_for t o w)

-- ---- for private clauses

-- the first entry whose key is not less than k
abbrev pub first_from : IndexKey → List IndexEntry → Option IndexEntry
first_from k [] = None
first_from k (e ∷ w) = if cmp_less key_cmp (key_of e) k then first_from k w else Some e

-- an entry, if it covers cell o of edit t and the other one has no greater offset; otherwise the other one
abbrev pub entry_or : Lamport → ℕ → IndexEntry → Option IndexEntry → Option IndexEntry
entry_or t o e r = if covers t o e then Some (nearest e r) else r

-- the entry begins at cell o
abbrev pub starts_at : ℕ → Option IndexEntry → Bool
starts_at o None = false
starts_at o (Some e) = e.offset == o

-- ---- the order of keys is total

pub key_order : IsTotalOrder key_cmp
key_order = then_total (on_total (λ (k : IndexKey). k.stamp) stamp_order) (on_total (λ (k : IndexKey). k.offset.0) (back_total nat_cmp_total))
