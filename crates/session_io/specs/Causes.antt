-- Counts that never fall, and what may be answered only where one rose.
use Rattle.std.specs.Prelude.{ℕ, ◌+◌, ◌-◌, ◌^◌, ◌≤◌, ◌==◌, ◌&&◌, nat_lt, max, min, if◌then◌else◌, List, length, Result, Ok, Err, OnErr}

-- a count after n more; it stands still at its last value
abbrev pub saturating_sum : ℕ → ℕ → ℕ
saturating_sum before n = max before (min (before + n) (2 ^ 64 - 1))

-- the count rose by n or more, or stands at its last value
abbrev pub RoseBy : ℕ → ℕ → ℕ → Type 0
RoseBy n before now = min (before + n) (2 ^ 64 - 1) ≤ now

-- the count rose, or stands at its last value
abbrev pub Rose : ℕ → ℕ → Type 0
Rose before now = RoseBy 1 before now

-- a count of failures does not fall, and has risen at an `Err`
pub record HasCause {T E : Type 0} (before now : ℕ) (result : Result T E) : Type 0 where
  pub later : before ≤ now
  pub failed : OnErr result (Rose before now)

-- ---- what a read adds to the counts of its source

-- the bytes that it gave
abbrev pub byte_count : {E : Type 0} → Result ℕ E → ℕ
byte_count (Ok n) = n
byte_count (Err e) = 0

-- 1 where it gave nothing into a slice with room: the end was met
abbrev pub end_met : ℕ → ℕ → ℕ
end_met room n = if n == 0 && nat_lt 0 room then 1 else 0

abbrev pub ends_met : {E : Type 0} → Result ℕ E → List ℕ → ℕ
ends_met (Ok n) into = end_met (length into) n
ends_met (Err e) into = 0
