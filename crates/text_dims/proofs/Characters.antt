-- The counts over bytes are those over characters.
use Rattle.std.specs.Prelude.{sum_by, nat_lt}
use Rattle.std.proofs.Common.{◌≡◌, ℕ, ◌+◌, ◌*◌, ◌/◌, ◌%◌, ◌^◌, ◌<◌, ◌≤◌, Bool, true, false, cond, List, [], ◌∷◌, ◌++◌, length, take, get_or, refl, arith, length-append, length-take}
use lib.Utf8.{encode, encodes, next}
use Rattle.std.specs.Str.{IsUtf8, chars}
use Rattle.std.proofs.lemmas.Bool.{lt-ltb, le-ltb, lt-leb, le-leb, ltb-true, ltb-false}
use Rattle.std.proofs.lemmas.Bool.Decides.{nat_tests}
use Rattle.std.proofs.lemmas.List.Sums.{sum_by-take-le, sum_by-cons, sum_by-le}
use Rattle.std.proofs.lemmas.Str.{chars-encodes, length-encode}
use Rattle.text_dims.specs.Counts.{begins_char, byte_units, char_units, char_count, utf16_count}
use Rattle.text_dims.specs.Summaries.{summary_of, text_sum, TextFits}
use Rattle.text_dims.specs.Bounds.{summary_fits}
use Rattle.text_dims.specs.Concat.{char_count-append, utf16_count-append, summary-append}

begins_low : (b : ℕ) → b < 128 → begins_char b ≡ true
begins_low b h = rw (lt-ltb b 128 h) refl

begins_lead : (b : ℕ) → 192 ≤ b → begins_char b ≡ true
begins_lead b h = let high : 128 ≤ b = omega arith in rw (le-ltb b 128 high, le-leb 192 b h) refl

begins_next : (x : ℕ) → begins_char (next x) ≡ false
begins_next x =
    let high : 128 ≤ 128 + x % 64 = omega arith in
    let low : 128 + x % 64 < 192 = omega arith in
    rw (le-ltb (128 + x % 64) 128 high, lt-leb 192 (128 + x % 64) low) refl

units_low : (b : ℕ) → begins_char b ≡ true → b < 240 → byte_units b ≡ 1
units_low b e h = rw (e, lt-ltb b 240 h) refl

units_high : (b : ℕ) → 240 ≤ b → byte_units b ≡ 2
units_high b h = let lead : 192 ≤ b = omega arith in rw (begins_lead b lead, le-ltb b 240 h) refl

units_next : (x : ℕ) → byte_units (next x) ≡ 0
units_next x = rw (begins_next x) refl

-- what one character counts
record One (c : ℕ) (bs : List ℕ) : Type 0 where
  chars : char_count bs ≡ 1
  units : utf16_count bs ≡ char_units c

one1 : (c : ℕ) → c < 128 → One c (c ∷ [])
unfolding char_count utf16_count
one1 c h =
    let few : c < 65536 = omega arith in
    record { chars = rw (begins_low c h) refl; units = rw (units_low c (begins_low c h) (omega arith), lt-ltb c 65536 few) refl }

one2 : (c a : ℕ) → c < 2048 → One c ((192 + c / 64) ∷ next a ∷ [])
unfolding char_count utf16_count
one2 c a h =
    let few : c < 65536 = omega arith in
    let lead = begins_lead (192 + c / 64) (omega arith) in
    record {
      chars = rw (lead, begins_next a) refl;
      units = rw (units_low (192 + c / 64) lead (omega arith), units_next a, lt-ltb c 65536 few) refl;
    }

one3 : (c a b : ℕ) → c < 65536 → One c ((224 + c / 4096) ∷ next a ∷ next b ∷ [])
unfolding char_count utf16_count
one3 c a b h =
    let lead = begins_lead (224 + c / 4096) (omega arith) in
    record {
      chars = rw (lead, begins_next a, begins_next b) refl;
      units = rw (units_low (224 + c / 4096) lead (omega arith), units_next a, units_next b, lt-ltb c 65536 h) refl;
    }

one4 : (c a b d : ℕ) → 65536 ≤ c → One c ((240 + c / 262144) ∷ next a ∷ next b ∷ next d ∷ [])
unfolding char_count utf16_count
one4 c a b d h =
    let lead = begins_lead (240 + c / 262144) (omega arith) in
    record {
      chars = rw (lead, begins_next a, begins_next b, begins_next d) refl;
      units = rw (units_high (240 + c / 262144) (omega arith), units_next a, units_next b, units_next d, le-ltb c 65536 h) refl;
    }

by_test : (c : ℕ) (t : Bool) (n : ℕ) (xs ys : List ℕ) → (t ≡ true → One c xs) → (t ≡ false → One c ys) → One c (cond t xs ys)
by_test c true n xs ys p q = p refl
by_test c false n xs ys p q = q refl

one : (c : ℕ) → One c (encode c)
unfolding encode
one c =
    by_test c (nat_lt c 128) 128 (c ∷ []) _ (λ e. one1 c (ltb-true c 128 e)) (λ e.
    by_test c (nat_lt c 2048) 2048 ((192 + c / 64) ∷ next c ∷ []) _ (λ f. one2 c c (ltb-true c 2048 f)) (λ f.
    by_test c (nat_lt c 65536) 65536 ((224 + c / 4096) ∷ next (c / 64) ∷ next c ∷ []) _ (λ g. one3 c (c / 64) c (ltb-true c 65536 g)) (λ g. one4 c (c / 4096) (c / 64) c (ltb-false c 65536 g))))

none_chars : char_count [] ≡ 0
unfolding char_count
none_chars = refl

none_units : utf16_count [] ≡ 0
unfolding utf16_count
none_units = refl

all_chars : (cs : List ℕ) → char_count (encodes cs) ≡ length cs
all_chars [] = none_chars
all_chars (c ∷ cs) = omega (arith, char_count-append (encode c) (encodes cs), (one c).chars, all_chars cs)

all_units : (cs : List ℕ) → utf16_count (encodes cs) ≡ sum_by char_units cs
all_units [] = none_units
all_units (c ∷ cs) = omega (arith, utf16_count-append (encode c) (encodes cs), (one c).units, all_units cs, sum_by-cons char_units c cs)

pub char_count-chars : (bs : List ℕ) → IsUtf8 bs → char_count bs ≡ length (chars bs)
char_count-chars bs u = rw (← u.1.1, chars-encodes u.0 u.1.0) (all_chars u.0)

pub utf16_count-chars : (bs : List ℕ) → IsUtf8 bs → utf16_count bs ≡ sum_by char_units (chars bs)
utf16_count-chars bs u = rw (← u.1.1, chars-encodes u.0 u.1.0) (all_units u.0)

units_of_char : (c : ℕ) → char_units c ≤ length (encode c)
units_of_char c = rw length-encode (grind (arith, nat_tests))

front_units : (bs : List ℕ) (i : ℕ) → utf16_count (take i bs) ≤ utf16_count bs
unfolding utf16_count
front_units bs i = sum_by-take-le byte_units bs i

units_within : (cs : List ℕ) → utf16_count (encodes cs) ≤ length (encodes cs)
units_within [] = omega (arith, none_units)
units_within (c ∷ cs) =
    omega (arith, utf16_count-append (encode c) (encodes cs), (one c).units, units_within cs, length-append (encode c) (encodes cs), units_of_char c)

-- a text has no more UTF-16 units than bytes
pub utf16_count-le : (bs : List ℕ) → IsUtf8 bs → utf16_count bs ≤ length bs
utf16_count-le bs u = rw (← u.1.1) (units_within u.0)

-- and neither has a part at its begin
pub front_fits : (bs : List ℕ) (i : ℕ) → IsUtf8 bs → length bs < 2 ^ 64 → TextFits (summary_of (take i bs))
front_fits bs i u few =
    summary_fits (take i bs) (omega (arith, length-take i bs)) (omega (arith, utf16_count-le bs u, front_units bs i))

at_most_two : (b : ℕ) → byte_units b ≤ 2
at_most_two b = grind (arith, nat_tests)

pub utf16_count-le_twice : (bs : List ℕ) → utf16_count bs ≤ length bs * 2
unfolding utf16_count
utf16_count-le_twice bs = sum_by-le byte_units 2 bs (λ k d h. at_most_two (get_or bs k d))

-- the counts of a text of at most 2 ^ 40 bytes
pub text_fits : (bs : List ℕ) → length bs ≤ 2 ^ 40 → TextFits (summary_of bs)
text_fits bs few = summary_fits bs (omega arith) (omega (arith, utf16_count-le_twice bs))

pub sum_fits : (xs ys : List ℕ) → length xs + length ys ≤ 2 ^ 40 → TextFits (text_sum (summary_of xs) (summary_of ys))
sum_fits xs ys few = rw (← summary-append xs ys) (text_fits (xs ++ ys) (omega (arith, length-append xs ys)))
