-- The lines of a text: each ends at a line feed, and the last may lack it.
use Rattle.std.specs.Prelude.{ℕ, List, [], ◌∷◌, if◌then◌else◌}
use Rattle.std.specs.List.{onto_first}
use Rattle.text_dims.specs.Counts.{is_newline}

abbrev pub lines_of : List ℕ → List (List ℕ)
lines_of [] = []
lines_of (x ∷ xs) = if is_newline x then [] ∷ lines_of xs else onto_first x (lines_of xs)
