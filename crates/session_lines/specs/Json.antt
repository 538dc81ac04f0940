-- A line's value, as `serde_json` reads it, and what stands in one.
use Rattle.std.specs.Prelude.{ℕ, List, [], ◌∷◌, Bool, false, nat_eq, ◌==◌, Option, None, option_map, option_and_then, if◌then◌else◌}
use Rattle.std.specs.Option.{option_map_or}
use Rattle.std.specs.Cmp.Lexicographic.{pointwise}
use Rattle.std.specs.Str.{is_utf8}
use Rattle.serde_json.specs.Data.{Data, Items, no_items, item}
use Rattle.serde_json.specs.Read.{read}
use Rattle.serde_json.specs.Find.{as_number, as_u64, as_str, as_array}

-- the value that a line is, where it is one
unfoldable pub value_of : List ℕ → Option Data
value_of line = if is_utf8 line then read line else None

-- a number without sign, fraction or exponent, below 2^64
abbrev pub whole_number : Data → Option ℕ
whole_number d = option_and_then as_u64 (as_number d)

abbrev pub list_of : Items → List Data
list_of no_items = []
list_of (item d ds) = d ∷ list_of ds

-- the members of an array
abbrev pub members_of : Data → Option (List Data)
members_of d = option_map list_of (as_array d)

-- the value is that string
abbrev pub is_text : List ℕ → Data → Bool
is_text w d = option_map_or (λ s. pointwise nat_eq s w) (as_str d) false

-- the value is that number
abbrev pub is_number : ℕ → Data → Bool
is_number n d = option_map_or (λ m. m == n) (whole_number d) false
