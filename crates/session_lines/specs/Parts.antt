-- The parts of a line.
use Rattle.std.specs.Prelude.{ℕ, ◌<◌, List, [], ◌∷◌, codes, map, ◌&&◌, ◌==◌, not, nat_le, Bool, true, Option, Some, None, option_map, option_and_then, if◌then◌else◌}
use Rattle.std.specs.List.{AllByRecursion, list_any}
use Rattle.serde_json.specs.Data.{Data}
use Rattle.serde_json.specs.Find.{as_str}
use Rattle.lamport_clock.specs.Clocks.{last_value}
use Rattle.lamport_clock.specs.Versions.{Entries, join_versions}
use Rattle.lamport_clock.specs.declared.stamp.Lamport.{Lamport}
use Rattle.op_model.specs.declared.operation.Piece.{Piece}
use Rattle.op_model.specs.declared.operation.UndoCount.{UndoCount}
use Rattle.op_model.specs.declared.anchor.Bias.{Bias}
use Rattle.op_model.specs.declared.anchor.Bias.TheVariants.{Left, Right}
use Rattle.session_lines.specs.Json.{whole_number, members_of, is_text}

-- what each member is, where each is something
abbrev pub all_of : {A : Type 0} → (Data → Option A) → List Data → Option (List A)
all_of f [] = Some []
all_of f (d ∷ ds) = option_and_then (λ x. option_map (λ xs. x ∷ xs) (all_of f ds)) (f d)

-- ---- numbers

abbrev pub at_most : ℕ → Data → Option ℕ
at_most m d = option_and_then (λ n. if nat_le n m then Some n else None) (whole_number d)

-- the id of a replica, of a header or not
abbrev pub id_of_value : Data → Option ℕ
id_of_value d = at_most 65535 d

-- the value of a stamp or of a version, or an undo count
abbrev pub clock_value : Data → Option ℕ
clock_value d = at_most last_value d

-- ---- lists of ids

-- r is one of the ids
abbrev pub is_among : List ℕ → ℕ → Bool
is_among ids r = list_any (λ x. x == r) ids

abbrev pub are_distinct : List ℕ → Bool
are_distinct [] = true
are_distinct (r ∷ rs) = not (is_among rs r) && are_distinct rs

-- ---- stamps

abbrev pub stamp_with : Option ℕ → Option ℕ → Option Lamport
stamp_with v r = option_and_then (λ x. option_map (λ id. record { value = x; replica = id }) r) v

-- [value, replica]
abbrev pub stamp_from : List Data → Option Lamport
stamp_from (v ∷ r ∷ []) = stamp_with (clock_value v) (id_of_value r)
stamp_from _ = None

abbrev pub stamp_of_value : Data → Option Lamport
stamp_of_value d = option_and_then stamp_from (members_of d)

-- ---- versions

-- a value of 0 makes no entry
abbrev pub entry_with : Option ℕ → Option ℕ → Option (ℕ × ℕ)
entry_with r v = option_and_then (λ id. option_and_then (λ x. if nat_le 1 x then Some (id, x) else None) v) r

-- [r, v]
abbrev pub entry_from : List Data → Option (ℕ × ℕ)
entry_from (r ∷ v ∷ []) = entry_with (id_of_value r) (clock_value v)
entry_from _ = None

abbrev pub entry_of_value : Data → Option (ℕ × ℕ)
entry_of_value d = option_and_then entry_from (members_of d)

-- for a private clause
abbrev pub IsEntry : ℕ × ℕ → Type 0
IsEntry e = (e.0 < 65536) × (0 < e.1) × (e.1 < 4294967296)

-- entries as they are read, in whatever order they stand
abbrev pub AreReadEntries : Entries → Type 0
AreReadEntries es = AllByRecursion IsEntry es

-- the version that has these entries, in whatever order they stand, where no id is there twice
abbrev pub version_with : Entries → Option Entries
version_with es = if are_distinct (map (λ e. e.0) es) then Some (join_versions [] es) else None

-- [[r, v], ..]
abbrev pub version_from : List Data → Option Entries
version_from ds = option_and_then version_with (all_of entry_of_value ds)

abbrev pub version_of_value : Data → Option Entries
version_of_value d = option_and_then version_from (members_of d)

-- ---- pieces

abbrev pub piece_with : Option ℕ → Option ℕ → Option (List ℕ) → Option Piece
piece_with s e t =
    option_and_then (λ a. option_and_then (λ b. option_map (λ x. record { start = a; end = b; text = x }) t) e) s

-- [s, e, "t"]
abbrev pub piece_from : List Data → Option Piece
piece_from (s ∷ e ∷ t ∷ []) = piece_with (whole_number s) (whole_number e) (as_str t)
piece_from _ = None

abbrev pub piece_of_value : Data → Option Piece
piece_of_value d = option_and_then piece_from (members_of d)

abbrev pub pieces_of_value : Data → Option (List Piece)
pieces_of_value d = option_and_then (all_of piece_of_value) (members_of d)

-- ---- undo counts

abbrev pub count_with : Option Lamport → Option ℕ → Option UndoCount
count_with t c = option_and_then (λ s. option_map (λ n. record { edit = s; count = n }) c) t

-- [value, replica, count]
abbrev pub count_from : List Data → Option UndoCount
count_from (v ∷ r ∷ c ∷ []) = count_with (stamp_with (clock_value v) (id_of_value r)) (clock_value c)
count_from _ = None

abbrev pub count_of_value : Data → Option UndoCount
count_of_value d = option_and_then count_from (members_of d)

abbrev pub counts_of_value : Data → Option (List UndoCount)
counts_of_value d = option_and_then (all_of count_of_value) (members_of d)

-- ---- numbers of operation lines

abbrev pub numbers_of_value : Data → Option (List ℕ)
numbers_of_value d = option_and_then (all_of whole_number) (members_of d)

-- ---- anchors

-- the side of its place that an anchor keeps to
abbrev pub bias_of_value : Data → Option Bias
bias_of_value d = if is_text (codes "left") d then Some Left else if is_text (codes "right") d then Some Right else None
