-- Lines that are written as the compact text of their values, for private clauses.
use Rattle.std.specs.Prelude.{◌≡◌, ℕ, ◌<◌, ◌^◌, ⊤, Bool, true, not, ◌&&◌, ◌==◌, List, [], ◌∷◌, Some}
use Rattle.std.specs.List.{AllByRecursion}
use Rattle.serde_json.specs.Data.{Data, Items, array, boolean, float, item, negative, no_items, null, number, object, string, unsigned}
use Rattle.serde_json.specs.Written.{compact_text}
use Rattle.session_lines.specs.Json.{value_of}

-- a value of arrays, strings and whole numbers
abbrev mutual
  pub IsForm : Data → Type 0
  IsForm null = ⊥
  IsForm (boolean b) = ⊥
  IsForm (number (unsigned n)) = ⊤
  IsForm (number (negative z)) = ⊥
  IsForm (number (float x)) = ⊥
  IsForm (string s) = ⊤
  IsForm (array ds) = AreForms ds
  IsForm (object ms) = ⊥

  pub AreForms : Items → Type 0
  AreForms no_items = ⊤
  AreForms (item d ds) = IsForm d × AreForms ds

-- the line is such a value
abbrev pub IsReadable : List ℕ → Type 0
IsReadable line = (d : Data) × (value_of line ≡ Some d) × IsForm d

abbrev pub AreReadable : List (List ℕ) → Type 0
AreReadable ls = AllByRecursion IsReadable ls

-- no byte is a line feed
abbrev pub is_one_line : List ℕ → Bool
is_one_line [] = true
is_one_line (x ∷ xs) = not (x == 10) && is_one_line xs

-- the text of the line's value is one line, and reads as the value
abbrev pub IsWritten : List ℕ → Type 0
IsWritten line =
    (d : Data) × (value_of line ≡ Some d) × (is_one_line (compact_text d) ≡ true)
    × (value_of (compact_text d) ≡ Some d)

abbrev pub AreWritten : List (List ℕ) → Type 0
AreWritten ls = AllByRecursion IsWritten ls
