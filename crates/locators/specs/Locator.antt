-- What contracts say of locators, each of which is the list of its digits.
use Rattle.std.specs.Prelude.{◌≡◌, ℕ, ◌+◌, ◌-◌, ◌/◌, ◌^◌, ◌<◌, ◌⊎◌, List, [], ◌∷◌, nat_lt, if◌then◌else◌}
use Rattle.std.specs.Cmp.Lexicographic.{slice_cmp}
use Rattle.std.specs.Ordering.{nat_cmp}
use Rattle.std.specs.declared.cmp.Ordering.TheVariants.{Less}

-- the greatest digit
abbrev pub greatest_digit : ℕ
greatest_digit = 2 ^ 64 - 1

-- the least and the greatest of the locators in use
abbrev pub least_digits : List ℕ
least_digits = 0 ∷ []

abbrev pub greatest_digits : List ℕ
greatest_digits = greatest_digit ∷ []

-- the digit between x and y: x, and the 2^48th part of the way from x up to y
abbrev pub middle : ℕ → ℕ → ℕ
middle x y = x + (y - x) / 2 ^ 48

-- the digit between x and y, and the rest where that digit is not above x
abbrev pub up_to_first_above : ℕ → ℕ → List ℕ → List ℕ
up_to_first_above x y rest = middle x y ∷ (if nat_lt x (middle x y) then [] else rest)

-- the digits between, one by one up to the first above a's: a goes on with 0, and b with the greatest digit
abbrev pub between_digits : List ℕ → List ℕ → List ℕ
between_digits [] [] = middle 0 greatest_digit ∷ []
between_digits [] (y ∷ b) = up_to_first_above 0 y (between_digits [] b)
between_digits (x ∷ a) [] = up_to_first_above x greatest_digit (between_digits a [])
between_digits (x ∷ a) (y ∷ b) = up_to_first_above x y (between_digits a b)

-- a stands before b in the order of locators
abbrev pub IsLess : List ℕ → List ℕ → Type 0
IsLess a b = slice_cmp nat_cmp a b ≡ Less

-- there is a last digit, and it is not 0
abbrev pub EndsAboveZero : List ℕ → Type 0
EndsAboveZero [] = ⊥
EndsAboveZero (x ∷ []) = 0 < x
EndsAboveZero (x ∷ y ∷ a) = EndsAboveZero (y ∷ a)

-- the locators in use: the least one, and those that do not end in 0
abbrev pub IsProper : List ℕ → Type 0
IsProper a = (a ≡ least_digits) ⊎ EndsAboveZero a
