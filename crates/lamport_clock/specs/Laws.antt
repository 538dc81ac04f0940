-- Laws of versions.
use Rattle.std.specs.Prelude.{◌≡◌, true, is_none}
use Rattle.lamport_clock.specs.Versions.{Entries, IsVersion, within, first_unseen, join_versions}

-- a join is the least version that both lie within
abbrev pub JoinIsLeast : Type 0
JoinIsLeast = (u v w : Entries) → IsVersion u → IsVersion v
    → (within u (join_versions u v) ≡ true) × (within v (join_versions u v) ≡ true)
    × (within u w ≡ true → within v w ≡ true → within (join_versions u v) w ≡ true)

-- there is no first entry unseen exactly where one version lies within the other
abbrev pub NoneUnseen : Type 0
NoneUnseen = (u v : Entries) → is_none (first_unseen u v) ≡ within v u
