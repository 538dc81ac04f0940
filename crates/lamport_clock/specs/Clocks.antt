-- What a Lamport clock does.
use Rattle.std.specs.Prelude.{ℕ, ◌+◌, max, min}

-- the last value of a clock, of a stamp and of a count
abbrev pub last_value : ℕ
last_value = 4294967295

-- the value of a clock at c after it has seen a stamp of value v
abbrev pub clock_after : ℕ → ℕ → ℕ
clock_after c v = min (max c v + 1) last_value
