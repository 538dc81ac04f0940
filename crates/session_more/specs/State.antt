-- What a line of a session is checked against.
use Rattle.std.specs.Prelude.{ℕ, List, []}
use Rattle.session_lines.specs.Before.{BeforeState}

pub record MoreState : Type 0 where
  -- what a line of `session_lines` is checked against
  pub plain : BeforeState
  -- the names under which selections are kept, ascending and without repeats
  pub selects : List (List ℕ)
  -- the names under which there are excerpts, likewise
  pub excerpts : List (List ℕ)

-- what the line after a header is checked against
abbrev pub first_state : BeforeState → MoreState
first_state b = record { plain = b; selects = []; excerpts = [] }
