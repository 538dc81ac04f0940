-- The numbers that sessions are made of: a state that is a number below 2^31, and what is drawn by it.
use Rattle.std.specs.Prelude.{ℕ, ◌+◌, ◌*◌, ◌/◌, ◌%◌, ◌^◌}

-- the state behind a draw
abbrev pub next : ℕ → ℕ
next x = (x * 1103515245 + 12345) % 2 ^ 31

-- what is drawn of the m numbers below m, by the state behind the draw
abbrev pub draw_below : ℕ → ℕ → ℕ
draw_below m x = x / 65536 % m
