-- How far a text was read, and what was found in it.
use Rattle.std.specs.Prelude.{◌≡◌, ◌+◌, ◌≤◌, ◌<◌, ◌++◌, ℕ, List, length}
use Rattle.memchr.specs.Find.{OccursAt}
use Rattle.snapshot_search.specs.Starts.{starts_between}
use Rattle.snapshot_search.specs.Shifts.{Agrees}
use Rattle.snapshot_search.specs.declared.progress.Progress.{Progress}

-- the place up to which the text was read
abbrev pub place_of : Progress → ℕ
place_of p = p.start + p.matched

-- What was found are the places from `from` up to the start of what is matched; and that stands in the text.
pub record Follows (text needle : List ℕ) (from : ℕ) (p : Progress) : Type 0 where
  pub begun : from ≤ p.start
  pub stands : Agrees text needle p.start p.matched
  pub found : p.found.items ≡ starts_between text needle from p.start

-- q is what p becomes where a piece is read, in whatever text the piece stands where p is.
pub record Reads (needle piece : List ℕ) (p q : Progress) : Type 0 where
  pub place : place_of q ≡ place_of p + length piece
  pub partial : q.matched < length needle
  pub follows : (text : List ℕ) (from : ℕ) → OccursAt text piece (place_of p)
      → Follows text needle from p → Follows text needle from q

-- q is what p becomes where the front of a text is read but for what is held in the window.
pub record Holds (needle front : List ℕ) (p q : Progress) (window : List ℕ) : Type 0 where
  pub read : List ℕ
  pub joined : read ++ window ≡ front
  pub reads : Reads needle read p q

-- the same front with a piece more is held after as was held before
abbrev pub Gathers : List ℕ → List ℕ → Progress → List ℕ → Progress → List ℕ → Type 0
Gathers needle piece p v q w = (begin : Progress) (front : List ℕ)
    → Holds needle front begin p v → Holds needle (front ++ piece) begin q w
