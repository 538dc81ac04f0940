-- Worked rows of the digit rule, and of the order.
use Rattle.std.proofs.Common.{◌≡◌, [], ◌∷◌, refl}
use Rattle.locators.specs.Locator.{between_digits, least_digits, greatest_digits, IsLess}

between_the_ends : between_digits least_digits greatest_digits ≡ 65535 ∷ []
between_the_ends = refl

before_the_first : between_digits least_digits (65535 ∷ []) ≡ 0 ∷ 65535 ∷ []
before_the_first = refl

before_a_longer_one : between_digits (1 ∷ []) (1 ∷ 5 ∷ []) ≡ 1 ∷ 0 ∷ 65535 ∷ []
before_a_longer_one = refl

after_the_last : between_digits (65535 ∷ []) greatest_digits ≡ 131070 ∷ []
after_the_last = refl

after_seven_digits : between_digits (1 ∷ 2 ∷ 3 ∷ 4 ∷ 5 ∷ 6 ∷ 7 ∷ []) (1 ∷ 2 ∷ 3 ∷ 4 ∷ 5 ∷ 6 ∷ 8 ∷ []) ≡ 1 ∷ 2 ∷ 3 ∷ 4 ∷ 5 ∷ 6 ∷ 7 ∷ 65535 ∷ []
after_seven_digits = refl

-- past both ends the digit is 65535, also where nothing lies between
between_one_and_itself : between_digits (7 ∷ []) (7 ∷ []) ≡ 7 ∷ 65535 ∷ []
between_one_and_itself = refl

in_the_wrong_order : between_digits (9 ∷ []) (3 ∷ 1 ∷ []) ≡ 9 ∷ 0 ∷ 65535 ∷ []
in_the_wrong_order = refl

a_longer_one_is_later : IsLess (1 ∷ []) (1 ∷ 0 ∷ [])
a_longer_one_is_later = refl

the_first_digit_decides : IsLess (1 ∷ 9 ∷ []) (2 ∷ [])
the_first_digit_decides = refl
