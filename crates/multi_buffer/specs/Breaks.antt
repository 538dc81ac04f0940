-- What stands before the text of an excerpt, for private clauses.
use Rattle.std.specs.Prelude.{ℕ, zero, suc, List, [], ◌∷◌}

-- an LF, but before the first
abbrev pub break_before : ℕ → List ℕ
break_before zero = []
break_before (suc i) = 10 ∷ []
