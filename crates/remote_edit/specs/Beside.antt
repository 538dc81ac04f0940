-- A place paired with a number to which each sum adds.
use Rattle.std.specs.Prelude.{ℕ, ◌+◌, Option}
use Rattle.std.specs.Option.{option_map}

-- a place and a number
abbrev pub beside : {P : Type 0} → ℕ → P → P × ℕ
beside n p = (p, n)

abbrev pub move_beside : {P S : Type 0} → (P → S → Option P) → (S → ℕ) → P × ℕ → S → Option (P × ℕ)
move_beside moved adds p s = option_map (beside (p.1 + adds s)) (moved p.0 s)
