-- What the rule of a walk looks at.
use Rattle.std.specs.Prelude.{◌≡◌, ℕ, Bool}

-- the rule looks at ends and counts alone
abbrev pub LooksAtEnds : {P S : Type 0} → (S → P → ℕ → Bool) → Type 0
LooksAtEnds {P} {S} halts = (a b : S) (q : P) (j : ℕ) → halts a q j ≡ halts b q j
