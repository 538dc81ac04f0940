-- The bytes of a text that pass a test, as the bits of a number.
use Rattle.std.specs.Prelude.{ℕ, ◌+◌, ◌*◌, ◌==◌, Bool, if◌then◌else◌, List, [], ◌∷◌}
use Rattle.std.specs.Int.{w64, trailing_zeros}

-- the number whose bit i is set exactly where byte i passes the test, the lowest bit being that of the first byte
abbrev pub mask_of : (ℕ → Bool) → List ℕ → ℕ
mask_of passes [] = 0
mask_of passes (b ∷ bs) = (if passes b then 1 else 0) + 2 * mask_of passes bs

-- how many lanes of n come before the first whose bit is set
abbrev pub first_set : ℕ → ℕ → ℕ
first_set mask n = if mask == 0 then n else trailing_zeros w64 mask
