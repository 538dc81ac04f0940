-- The locator between two lies strictly between them and does not end in 0.
use Rattle.std.proofs.Common.{◌≡◌, ℕ, zero, suc, ◌+◌, ◌≤◌, ◌<◌, ◌⊎◌, List, [], ◌∷◌, ◌++◌, refl, sym, ap, subst, inl, inr, true, false, length, replicate, max, ◌∙◌, arith}
use Rattle.std.proofs.lemmas.Bool.{cases_Bool, ltb-true, ltb-false, lt-ltb, cases_lt}
use Rattle.std.proofs.lemmas.Bool.Decides.{nat_tests}
use Rattle.std.specs.Prelude.{nat_lt}
use Rattle.std.specs.Cmp.Lexicographic.{slice_cmp}
use Rattle.std.specs.Ordering.{nat_cmp, ordering_then}
use Rattle.std.specs.declared.cmp.Ordering.{Ordering}
use Rattle.std.specs.declared.cmp.Ordering.TheVariants.{Less, Equal, Greater}
use Rattle.locators.specs.Locator.{greatest_digit, middle, up_to_first_above, least_digits, between_digits, IsLess, EndsAboveZero, IsProper}

-- a digit rises by less than the way that is left
middle_low : (x y : ℕ) → x ≤ middle x y
middle_low x y = omega arith

middle_high : (x y : ℕ) → x < middle x y → middle x y < y
middle_high x y h = omega arith

-- the digit is above x and the last, or it is x and the rest follows
abbrev pub LastOrSame : ℕ → ℕ → List ℕ → Type 0
LastOrSame x y rest =
    ((x < middle x y) × (up_to_first_above x y rest ≡ middle x y ∷ [])) ⊎ ((middle x y ≡ x) × (up_to_first_above x y rest ≡ x ∷ rest))

pub last_or_same : (x y : ℕ) (rest : List ℕ) → LastOrSame x y rest
last_or_same x y rest = go (cases_Bool (nat_lt x (middle x y)))
  where
    go : (nat_lt x (middle x y) ≡ true) ⊎ (nat_lt x (middle x y) ≡ false) → LastOrSame x y rest
    go (inl l) = inl (ltb-true x (middle x y) l, rw l refl)
    go (inr l) =
        let low : x ≤ middle x y = middle_low x y in
        let high : middle x y ≤ x = ltb-false x (middle x y) l in
        let same : middle x y ≡ x = omega arith in inr (same, rw (l, same) refl)

pub nat_cmp-below : (x y : ℕ) → x < y → nat_cmp x y ≡ Less
nat_cmp-below x y h = rw (lt-ltb x y h) refl

nat_cmp-same : (x : ℕ) → nat_cmp x x ≡ Equal
nat_cmp-same x = grind (arith, nat_tests)

less_by_head : (x y : ℕ) (a b : List ℕ) → x < y → IsLess (x ∷ a) (y ∷ b)
less_by_head x y a b h = rw (nat_cmp-below x y h) refl

less_by_rest : (x : ℕ) (a b : List ℕ) → IsLess a b → IsLess (x ∷ a) (x ∷ b)
less_by_rest x a b h = rw (nat_cmp-same x) h

pub nat_cmp-Less : (x y : ℕ) → nat_cmp x y ≡ Less → x < y
nat_cmp-Less x y e = grind (arith, nat_tests)

pub nat_cmp-Equal : (x y : ℕ) → nat_cmp x y ≡ Equal → x ≡ y
nat_cmp-Equal x y e = grind (arith, nat_tests)

less_parts : (x y : ℕ) (a b : List ℕ) → IsLess (x ∷ a) (y ∷ b) → (x < y) ⊎ ((x ≡ y) × IsLess a b)
less_parts x y a b = go (nat_cmp x y) refl
  where
    go : (o : Ordering) → nat_cmp x y ≡ o → ordering_then o (slice_cmp nat_cmp a b) ≡ Less → (x < y) ⊎ ((x ≡ y) × IsLess a b)
    go Less e h = inl (nat_cmp-Less x y e)
    go Equal e h = inr (nat_cmp-Equal x y e, h)
    go Greater e h = cc

ends_by_rest : (x : ℕ) (a : List ℕ) → EndsAboveZero a → EndsAboveZero (x ∷ a)
ends_by_rest x [] e = absurd e
ends_by_rest x (y ∷ a) e = e

-- above a, whatever b is
abbrev pub IsAbove : List ℕ → List ℕ → Type 0
IsAbove a r = IsLess a r × EndsAboveZero r

above_step : (x y : ℕ) (a rest : List ℕ) → IsAbove a rest → IsAbove (x ∷ a) (up_to_first_above x y rest)
above_step x y a rest h = go (last_or_same x y rest)
  where
    go : LastOrSame x y rest → IsAbove (x ∷ a) (up_to_first_above x y rest)
    go (inl p) = let e : up_to_first_above x y rest ≡ middle x y ∷ [] = p.1 in let l : 0 < middle x y = omega (arith, p.0) in
        subst (IsAbove (x ∷ a)) (sym e) (less_by_head x (middle x y) a [] p.0, l)
    go (inr p) = let e : up_to_first_above x y rest ≡ x ∷ rest = p.1 in subst (IsAbove (x ∷ a)) (sym e) (less_by_rest x a rest h.0, ends_by_rest x rest h.1)

-- no digit is like a digit 0
above_step_none : (y : ℕ) (rest : List ℕ) → IsAbove [] rest → IsAbove [] (up_to_first_above 0 y rest)
above_step_none y rest h = go (last_or_same 0 y rest)
  where
    go : LastOrSame 0 y rest → IsAbove [] (up_to_first_above 0 y rest)
    go (inl p) = let e : up_to_first_above 0 y rest ≡ middle 0 y ∷ [] = p.1 in subst (IsAbove []) (sym e) (refl, p.0)
    go (inr p) = let e : up_to_first_above 0 y rest ≡ 0 ∷ rest = p.1 in subst (IsAbove []) (sym e) (refl, ends_by_rest 0 rest h.1)

length_step : (x y : ℕ) (rest : List ℕ) (n : ℕ) → length rest ≤ n + 1 → length (up_to_first_above x y rest) ≤ suc n + 1
length_step x y rest n h = go (last_or_same x y rest)
  where
    go : LastOrSame x y rest → length (up_to_first_above x y rest) ≤ suc n + 1
    go (inl p) = let e : up_to_first_above x y rest ≡ middle x y ∷ [] = p.1 in let l : length (up_to_first_above x y rest) ≡ 1 = ap length e in omega arith
    go (inr p) = let e : up_to_first_above x y rest ≡ x ∷ rest = p.1 in let l : length (up_to_first_above x y rest) ≡ suc (length rest) = ap length e in omega arith

pub above : (a b : List ℕ) → IsAbove a (between_digits a b)
above [] [] = (refl, omega arith)
above [] (y ∷ b) = above_step_none y (between_digits [] b) (above [] b)
above (x ∷ a) [] = above_step x greatest_digit a (between_digits a []) (above a [])
above (x ∷ a) (y ∷ b) = above_step x y a (between_digits a b) (above a b)

-- the head decides, or the rest does
below_step : (x y : ℕ) (rest b : List ℕ) → x ≤ y → (x ≡ y → IsLess rest b) → IsLess (up_to_first_above x y rest) (y ∷ b)
below_step x y rest b h f = go (last_or_same x y rest)
  where
    Below : List ℕ → Type 0
    Below r = IsLess r (y ∷ b)

    go : LastOrSame x y rest → IsLess (up_to_first_above x y rest) (y ∷ b)
    go (inl p) = let e : up_to_first_above x y rest ≡ middle x y ∷ [] = p.1 in
        subst Below (sym e) (less_by_head (middle x y) y [] b (middle_high x y p.0))
    go (inr p) = let e : up_to_first_above x y rest ≡ x ∷ rest = p.1 in subst Below (sym e) (same_head (cases_lt x y))
      where
        same_head : (x < y) ⊎ (y ≤ x) → IsLess (x ∷ rest) (y ∷ b)
        same_head (inl l) = less_by_head x y rest b l
        same_head (inr l) = let i : x ≡ y = omega arith in let P : ℕ → Type 0 = λ z. IsLess (x ∷ rest) (z ∷ b) in subst P i (less_by_rest x rest b (f i))

none_below : (a : List ℕ) → IsLess a [] → ⊥
none_below [] e = cc
none_below (x ∷ a) e = cc

-- what follows a digit ends above zero too, where something stands before it
ends_of_rest : (y : ℕ) (a b : List ℕ) → IsLess a b → EndsAboveZero (y ∷ b) → EndsAboveZero b
ends_of_rest y a [] l e = absurd (none_below a l)
ends_of_rest y a (z ∷ b) l e = e

pub below : (a b : List ℕ) → IsLess a b → EndsAboveZero b → IsLess (between_digits a b) b
below [] [] l e = cc
below [] (y ∷ []) l e = below_step 0 y (between_digits [] []) [] (omega arith) (λ i. absurd (omega arith))
below [] (y ∷ z ∷ b) l e = below_step 0 y (between_digits [] (z ∷ b)) (z ∷ b) (omega arith) (λ i. below [] (z ∷ b) refl e)
below (x ∷ a) [] l e = cc
below (x ∷ a) (y ∷ b) l e = go (less_parts x y a b l) (λ h. below a b h (ends_of_rest y a b h e))
  where
    go : (x < y) ⊎ ((x ≡ y) × IsLess a b) → (IsLess a b → IsLess (between_digits a b) b) → IsLess (between_digits (x ∷ a) (y ∷ b)) (y ∷ b)
    go (inl h) below_rest = below_step x y (between_digits a b) b (omega arith) (λ i. absurd (omega arith))
    go (inr h) below_rest = below_step x y (between_digits a b) b (omega arith) (λ i. below_rest h.1)

-- nothing proper stands before the least one
none_below_least : (a : List ℕ) → IsProper a → IsLess a least_digits → ⊥
none_below_least [] (inl e) l = cc
none_below_least [] (inr e) l = e
none_below_least (x ∷ a) p l = go (less_parts x 0 a [] l)
  where
    go : (x < 0) ⊎ ((x ≡ 0) × IsLess a []) → ⊥
    go (inl h) = absurd (omega arith)
    go (inr h) = none_below a h.1

pub below_proper : (a b : List ℕ) → IsProper a → IsProper b → IsLess a b → IsLess (between_digits a b) b
below_proper a b p (inl e) l = let Q : List ℕ → Type 0 = λ c. IsLess a c in absurd (none_below_least a p (subst Q e l))
below_proper a b p (inr e) l = below a b l e

-- one digit more than the longer of both, at most
pub length-between_digits : (a b : List ℕ) → length (between_digits a b) ≤ max (length a) (length b) + 1
length-between_digits [] [] = omega arith
length-between_digits [] (y ∷ b) = let rest = length-between_digits [] b in
    let all : length (between_digits [] (y ∷ b)) ≤ suc (length b) + 1 = length_step 0 y (between_digits [] b) (length b) (omega (arith, rest)) in omega (arith, all)
length-between_digits (x ∷ a) [] = let rest = length-between_digits a [] in
    let all : length (between_digits (x ∷ a) []) ≤ suc (length a) + 1 = length_step x greatest_digit (between_digits a []) (length a) (omega (arith, rest)) in omega (arith, all)
length-between_digits (x ∷ a) (y ∷ b) = let rest = length-between_digits a b in
    let all : length (between_digits (x ∷ a) (y ∷ b)) ≤ suc (max (length a) (length b)) + 1 = length_step x y (between_digits a b) (max (length a) (length b)) rest in omega (arith, all)

-- where nothing lies between, the digits stay
pub same_digits : (n x y : ℕ) (a b : List ℕ) → middle x y ≡ x → between_digits (replicate n x ++ a) (replicate n y ++ b) ≡ replicate n x ++ between_digits a b
same_digits zero x y a b e = refl
same_digits (suc n) x y a b e = go (same_digits n x y a b e) (last_or_same x y (between_digits (replicate n x ++ a) (replicate n y ++ b)))
  where
    go : between_digits (replicate n x ++ a) (replicate n y ++ b) ≡ replicate n x ++ between_digits a b → LastOrSame x y (between_digits (replicate n x ++ a) (replicate n y ++ b)) → between_digits (replicate (suc n) x ++ a) (replicate (suc n) y ++ b) ≡ replicate (suc n) x ++ between_digits a b
    go rest (inl p) = absurd (omega (arith, p.0, e))
    go rest (inr p) = p.1 ∙ ap (λ z. x ∷ z) rest

-- digits 0 behind the first, and greatest ones behind the second, change nothing
zeros_behind_none : (n : ℕ) (b : List ℕ) → between_digits (replicate n 0) b ≡ between_digits [] b
zeros_behind_none zero b = refl
zeros_behind_none (suc n) [] = refl
zeros_behind_none (suc n) (y ∷ b) = rw (zeros_behind_none n b) refl

pub zeros_behind : (n : ℕ) (a b : List ℕ) → between_digits (a ++ replicate n 0) b ≡ between_digits a b
zeros_behind n [] b = zeros_behind_none n b
zeros_behind n (x ∷ a) [] = rw (zeros_behind n a []) refl
zeros_behind n (x ∷ a) (y ∷ b) = rw (zeros_behind n a b) refl

greatest_behind_none : (n : ℕ) (a : List ℕ) → between_digits a (replicate n greatest_digit) ≡ between_digits a []
greatest_behind_none zero a = refl
greatest_behind_none (suc n) [] = refl
greatest_behind_none (suc n) (x ∷ a) = rw (greatest_behind_none n a) refl

pub greatest_behind : (n : ℕ) (a b : List ℕ) → between_digits a (b ++ replicate n greatest_digit) ≡ between_digits a b
greatest_behind n a [] = greatest_behind_none n a
greatest_behind n [] (y ∷ b) = rw (greatest_behind n [] b) refl
greatest_behind n (x ∷ a) (y ∷ b) = rw (greatest_behind n a b) refl

pub some_digit : (a b : List ℕ) → 0 < length (between_digits a b)
some_digit [] [] = omega arith
some_digit [] (y ∷ b) = omega arith
some_digit (x ∷ a) [] = omega arith
some_digit (x ∷ a) (y ∷ b) = omega arith

-- equal digits before both do not change the order
pub cmp-same : (n x : ℕ) (a b : List ℕ) → slice_cmp nat_cmp (replicate n x ++ a) (replicate n x ++ b) ≡ slice_cmp nat_cmp a b
cmp-same zero x a b = refl
cmp-same (suc n) x a b = rw (nat_cmp-same x) (cmp-same n x a b)
