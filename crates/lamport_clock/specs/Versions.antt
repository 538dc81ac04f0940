-- A version: a finite map from replicas to values, 0 where absent, as the list of its entries.
use Rattle.std.specs.Prelude.{◌≡◌, ℕ, suc, ◌<◌, ◌≤◌, ◌==◌, ◌&&◌, Bool, true, List, [], ◌∷◌, length, nat_lt, nat_le, if◌then◌else◌, slice_index_or, Option}
use Rattle.std.specs.List.{find}
use Rattle.lamport_clock.specs.declared.stamp.Lamport.{Lamport}

-- entries (replica, value)
abbrev pub Entries : Type 0
Entries = List (ℕ × ℕ)

-- the replicas ascend from n on and are below 2^16, the values are above 0 and below 2^32
abbrev pub IsVersionFrom : ℕ → Entries → Type 0
IsVersionFrom n [] = Unit {0}
IsVersionFrom n (e ∷ v) = (n ≤ e.0) × (e.0 < 65536) × (0 < e.1) × (e.1 < 4294967296) × IsVersionFrom (suc e.0) v

abbrev pub IsVersion : Entries → Type 0
IsVersion v = IsVersionFrom 0 v

-- the replicas ascend from n on and the values are above 0, of any size
abbrev pub AreEntriesFrom : ℕ → Entries → Type 0
AreEntriesFrom n [] = Unit {0}
AreEntriesFrom n (e ∷ v) = (n ≤ e.0) × (0 < e.1) × AreEntriesFrom (suc e.0) v

abbrev pub AreEntries : Entries → Type 0
AreEntries v = AreEntriesFrom 0 v

-- the value at replica r, 0 where it is absent
abbrev pub entry : Entries → ℕ → ℕ
entry [] r = 0
entry (e ∷ v) r = if e.0 == r then e.1 else entry v r

-- v sees the stamp t
abbrev pub sees : Entries → Lamport → Bool
sees v t = nat_le t.value (entry v t.replica)

-- no entry of v passes that of u
abbrev pub within : Entries → Entries → Bool
within [] u = true
within (e ∷ v) u = nat_le e.1 (entry u e.0) && within v u

-- v with the value x at replica r
abbrev pub put_entry : ℕ → ℕ → Entries → Entries
put_entry r x [] = (r, x) ∷ []
put_entry r x (e ∷ v) = if nat_lt e.0 r then e ∷ put_entry r x v else (if e.0 == r then (r, x) ∷ v else (r, x) ∷ e ∷ v)

-- v with t seen too
abbrev pub raise : Entries → Lamport → Entries
raise v t = if sees v t then v else put_entry t.replica t.value v

-- the first entry of v that passes that of u: at the least such replica, as the replicas of a version ascend
abbrev pub first_unseen : Entries → Entries → Option (ℕ × ℕ)
first_unseen u v = find (λ e. nat_lt (entry u e.0) e.1) v

-- u with all that v sees seen too
abbrev pub join_versions : Entries → Entries → Entries
join_versions u [] = u
join_versions u (e ∷ v) = join_versions (raise u (record { value = e.1; replica = e.0 })) v

-- ---- for private clauses

-- the number of entries before replica r's place
abbrev pub place_of : Entries → ℕ → ℕ
place_of [] r = 0
place_of (e ∷ v) r = if nat_lt e.0 r then suc (place_of v r) else 0

-- the first entry's value, where that is replica r's, and what stands after it
abbrev pub front : Entries → ℕ → ℕ
front [] r = 0
front (e ∷ v) r = if e.0 == r then e.1 else 0

abbrev pub behind : Entries → ℕ → Entries
behind [] r = []
behind (e ∷ v) r = if e.0 == r then v else e ∷ v

abbrev pub IsAt : Entries → ℕ → ℕ → Type 0
IsAt v i r = (i < length v) × ((slice_index_or v i (0, 0)).0 ≡ r)

-- as many entries, of the same replicas
abbrev pub OfSameReplicas : Entries → Entries → Type 0
OfSameReplicas u v = (length u ≡ length v)
    × ((k : ℕ) → k < length u → (slice_index_or u k (0, 0)).0 ≡ (slice_index_or v k (0, 0)).0)
