-- All places where a needle stands in a text.
use Rattle.std.specs.Prelude.{ℕ, ◌+◌, ◌-◌, Bool, List, length, slice_range}
use Rattle.std.specs.List.{filter, range_with_len}
use Rattle.std.specs.Str.{bytes_eq}

-- the needle is what stands in the text from place i on
abbrev pub stands_at : List ℕ → List ℕ → ℕ → Bool
stands_at text needle i = bytes_eq (slice_range text i (i + length needle)) needle

-- the places from i up to j at which the needle stands, ascending; what stands at one may reach past j
unfoldable pub starts_between : List ℕ → List ℕ → ℕ → ℕ → List ℕ
starts_between text needle i j = filter (stands_at text needle) (range_with_len i (j - i))

-- all places of a text at which the needle stands, ascending, where these overlap too
unfoldable pub starts : List ℕ → List ℕ → List ℕ
starts text needle = filter (stands_at text needle) (range_with_len 0 (length text))
