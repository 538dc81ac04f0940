-- Values of lines, and how they are written.
use Rattle.std.specs.Prelude.{ℕ, List, [], ◌∷◌, ◌++◌, map, codes}
use Rattle.std.specs.List.{flat_map}
use Rattle.serde_json.specs.Data.{Data, array, number, string, unsigned}
use Rattle.serde_json.specs.View.{items_of}
use Rattle.serde_json.specs.Written.{compact_text}

abbrev pub number_value : ℕ → Data
number_value n = number (unsigned n)

abbrev pub list_value : List Data → Data
list_value ds = array (items_of ds)

-- ["zedbuf", version, "base", [replica, ..]]
abbrev pub header_value : ℕ → List ℕ → List ℕ → Data
header_value version base ids =
    list_value (string (codes "zedbuf") ∷ number_value version ∷ string base ∷ list_value (map number_value ids) ∷ [])

-- the value on a line of its own, without spaces
abbrev pub line_text : Data → List ℕ
line_text d = compact_text d ++ codes "\n"

abbrev pub lines_text : List Data → List ℕ
lines_text ds = flat_map line_text ds
