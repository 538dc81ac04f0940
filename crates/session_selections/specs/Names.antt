-- What a session keeps under names.
use Rattle.std.specs.Prelude.{ℕ, List, map, Option, None, Some, String, string_bytes}
use Rattle.std.specs.BTreeMap.{insert_entry}
use Rattle.std.specs.Map.{lookup}
use Rattle.std.specs.Ordering.{nat_cmp}
use Rattle.std.specs.Cmp.Lexicographic.{slice_cmp}
use Rattle.std.specs.Str.{bytes_eq}

-- values under names, each name once, in the names' order
abbrev pub Names : Type 0 → Type 0
Names A = List (List ℕ × A)

-- what is under the name
abbrev pub under : {A : Type 0} → List ℕ → Names A → Option A
under name es = lookup (bytes_eq name) es

-- with x under the name, in the place of what was there; where there is no x, all stays
abbrev pub with_name : {A : Type 0} → List ℕ → Option A → Names A → Names A
with_name name None es = es
with_name name (Some x) es = insert_entry (slice_cmp nat_cmp) es name x

-- ---- for private clauses

-- the entries of a map by the bytes of their names
abbrev pub by_bytes : {X Y : Type 0} → List (String Y × X) → Names X
by_bytes es = map (λ e. (string_bytes e.0, e.1)) es
