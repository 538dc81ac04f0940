-- Runs of equal digits: the digits that they stand for, and how a locator keeps them.
use Rattle.std.specs.Prelude.{◌≢◌, ℕ, ◌+◌, ◌^◌, ◌<◌, ◌≤◌, List, [], ◌∷◌, ◌++◌, replicate, take, length, nat_eq, if◌then◌else◌}
use Rattle.std.specs.Arc.{arc_value}
use Rattle.locators.specs.declared.TheConstants.{INLINE_RUNS}
use Rattle.locators.specs.declared.runs.Run.{Run}
use Rattle.locators.specs.declared.runs.Runs.{Runs}
use Rattle.locators.specs.declared.runs.Runs.TheVariants.{Inline, Shared}

-- the digits of runs, one by one
abbrev pub run_digits : List Run → List ℕ
run_digits [] = []
run_digits (r ∷ rs) = replicate r.count r.digit ++ run_digits rs

-- the first run, if there is one, is of another digit
abbrev pub BeginsOther : ℕ → List Run → Type 0
BeginsOther x [] = Unit {0}
BeginsOther x (r ∷ rs) = x ≢ r.digit

-- no run is empty, and neighbours differ: each is as long as it can be
abbrev pub AreMaximal : List Run → Type 0
AreMaximal [] = Unit {0}
AreMaximal (r ∷ rs) = (0 < r.count) × BeginsOther r.digit rs × AreMaximal rs

-- how many runs of equal digits a list has
abbrev pub count_runs : List ℕ → ℕ
count_runs [] = 0
count_runs (x ∷ []) = 1
count_runs (x ∷ y ∷ a) = if nat_eq x y then count_runs (y ∷ a) else count_runs (y ∷ a) + 1

-- such digits lie in the value itself
abbrev pub LieInline : List ℕ → Type 0
LieInline a = (count_runs a ≤ INLINE_RUNS) × (length a < 2 ^ 64)

-- the runs that are kept
abbrev pub kept_runs : Runs → List Run
kept_runs (Inline runs) = runs.items
kept_runs (Shared front last) = (arc_value front).items ++ last.items

-- what is shared would not fit inline
abbrev pub SharesLong : Runs → Type 0
SharesLong (Inline runs) = Unit {0}
SharesLong (Shared front last) = (INLINE_RUNS ≤ length (arc_value front).items) × (0 < length last.items)

abbrev pub IsKept : Runs → Type 0
IsKept runs = AreMaximal (kept_runs runs) × SharesLong runs

-- the digits of the first runs, and then those of one more
abbrev pub digits_with : List Run → ℕ → Run → List ℕ
digits_with runs count run = run_digits (take count runs) ++ replicate run.count run.digit
