-- How far runs are read.
use Rattle.std.specs.Prelude.{◌≡◌, ℕ, ◌+◌, ◌-◌, ◌^◌, ◌<◌, ◌≤◌, ◌⊎◌, List, [], ◌∷◌, ◌++◌, length, replicate, option_to_list}
use Rattle.locators.specs.Locator.{between_digits}
use Rattle.locators.specs.Runs.{run_digits, digits_with}
use Rattle.locators.specs.declared.runs.Run.{Run}
use Rattle.locators.specs.declared.reader.Ahead.{Ahead}
use Rattle.locators.specs.declared.reader.Reader.{Reader}
use Rattle.locators.specs.declared.BranchPoint.{BranchPoint}

-- the runs ahead
abbrev pub runs_ahead : Ahead → List Run
runs_ahead a = a.front.now ++ a.last.now ++ option_to_list a.pad

-- the digits that are still to be read
abbrev pub digits_left : Reader → List ℕ
digits_left r = replicate r.run.count r.run.digit ++ run_digits (runs_ahead r.ahead)

-- the run that is being read, whole, and those ahead
abbrev pub from_whole : Reader → List Run
from_whole r = record { digit = r.run.digit; count = r.taken + r.run.count } ∷ runs_ahead r.ahead

-- none of the runs is empty
abbrev pub AreFull : List Run → Type 0
AreFull [] = Unit {0}
AreFull (r ∷ rs) = (0 < r.count) × AreFull rs

-- runs are read in turn: the present one is empty only where none is ahead
pub record IsReady (r : Reader) : Type 0 where
  pub full : AreFull (runs_ahead r.ahead)
  pub present : r.run.count ≡ 0 → runs_ahead r.ahead ≡ []
  pub counts : r.taken + r.run.count < 2 ^ 64

-- in the same run, or at the one behind it
abbrev pub GoesOn : Reader → Reader → Type 0
GoesOn before after = (from_whole after ≡ from_whole before) ⊎ (from_whole after ≡ runs_ahead before.ahead)

-- both read as many digits, each of them equal ones
pub record IsStep (a b a_after b_after : Reader) : Type 0 where
  pub count : ℕ
  pub some : 0 < count
  pub a_reads : digits_left a ≡ replicate count a.run.digit ++ digits_left a_after
  pub b_reads : digits_left b ≡ replicate count b.run.digit ++ digits_left b_after
  pub place : GoesOn a a_after
  pub a_ready : IsReady a_after
  pub b_ready : IsReady b_after

-- the runs before this place were read whole, and all digits before it are these
pub record IsAt (a met : Reader) (read : List ℕ) : Type 0 where
  pub runs : List Run
  pub passes : from_whole a ≡ runs ++ from_whole met
  pub reads : digits_left a ≡ read ++ digits_left met

-- two readers went equally far, and nothing lay between on the way
pub record GoAlong (a b a_now b_now : Reader) : Type 0 where
  pub a_ready : IsReady a_now
  pub b_ready : IsReady b_now
  pub read : List ℕ
  pub at : IsAt a a_now read
  pub b_reads : length (digits_left b) ≡ length read + length (digits_left b_now)
  pub digits : between_digits (digits_left a) (digits_left b) ≡ read ++ between_digits (digits_left a_now) (digits_left b_now)

-- the digits between are those before this place, and one more
pub record Meet (a b met : Reader) (digit : ℕ) : Type 0 where
  pub read : List ℕ
  pub at : IsAt a met read
  pub digits : between_digits (digits_left a) (digits_left b) ≡ read ++ digit ∷ []

-- before the first digit of these runs, behind which one digit follows, 2^64 - 1 times or more
pub record IsContinued (runs : List Run) (digit : ℕ) (r : Reader) : Type 0 where
  pub ready : IsReady r
  pub start : r.taken ≡ 0
  pub more : ℕ
  pub many : 2 ^ 64 - 1 ≤ more
  pub whole : from_whole r ≡ runs ++ record { digit = digit; count = more } ∷ []

-- the digits up to a branch point in these runs, and the one digit more
abbrev pub digits_to : List Run → BranchPoint → List ℕ
digits_to runs point = digits_with runs point.count point.part ++ point.digit ∷ []
