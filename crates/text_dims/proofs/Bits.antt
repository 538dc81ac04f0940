-- Masks, the counts that they give, and the vectors that they are made of.
use Rattle.std.specs.Prelude.{count_ones, not}
use Rattle.std.proofs.Common.{◌≡◌, ℕ, suc, ◌+◌, ◌*◌, ◌%◌, ◌^◌, ◌<◌, ◌≤◌, Bool, true, false, cond, List, [], ◌∷◌, ◌++◌, length, take, drop, map, refl, ap, ap₂, sym, subst, ◌∙◌, arith, w8, Fits}
use Rattle.std.specs.List.{count_by, prefix_len}
use Rattle.std.proofs.lemmas.Bool.{agree_below, agree_below_at}
use Rattle.std.proofs.lemmas.Bool.Decides.{nat_tests}
use Rattle.std.proofs.lemmas.List.{take-append-drop, take-take, length-take-le, length-map}
use Rattle.std.proofs.lemmas.List.Sums.{sum_by-cons, prefix_len-le-length}
use Rattle.std.proofs.lemmas.Nat.{mod_low, pow-add, or_comm, or_shifted, shl_whole}
use Rattle.std.proofs.lemmas.Simd.{mask_l-lt, mask_l-mod, ones-mask_l, first_set_mask_l}
use lib.Lanes.{mask_l, top, Each1}
use Rattle.text_dims.specs.Counts.{begins_char, begins_wide, byte_units, is_newline, char_count, utf16_count, newline_count}
use Rattle.text_dims.specs.Masks.{mask_of, first_set}
use lib.Bits.{bit_or}

pub mask_of-is : (p : ℕ → Bool) (bs : List ℕ) → mask_of p bs ≡ mask_l (map p bs)
mask_of-is p [] = refl
mask_of-is p (b ∷ bs) = ap (λ m. cond (p b) 1 0 + 2 * m) (mask_of-is p bs)

pub mask_of-lt : (p : ℕ → Bool) (bs : List ℕ) → mask_of p bs < 2 ^ length bs
mask_of-lt p bs = subst (λ n. mask_of p bs < 2 ^ n) (length-map bs p) (rw (mask_of-is p bs) (mask_l-lt (map p bs)))

shifted : (c a m d : ℕ) → c + 2 * (a + m * d) ≡ c + 2 * a + m * (2 * d)
shifted c a m d = grind arith

pub mask_of-append : (p : ℕ → Bool) (xs ys : List ℕ) → mask_of p (xs ++ ys) ≡ mask_of p xs + mask_of p ys * 2 ^ length xs
mask_of-append p [] ys = omega arith
mask_of-append p (x ∷ xs) ys =
    let n = length xs in
    let more : suc n ≡ 1 + n = omega arith in
    let twice : 2 ^ suc n ≡ 2 * 2 ^ n = ap (λ k. 2 ^ k) more ∙ pow-add 2 1 n in
    ap (λ m. cond (p x) 1 0 + 2 * m) (mask_of-append p xs ys)
    ∙ shifted (cond (p x) 1 0) (mask_of p xs) (mask_of p ys) (2 ^ n)
    ∙ ap (λ d. cond (p x) 1 0 + 2 * mask_of p xs + mask_of p ys * d) (sym twice)

-- the low bits of a mask are the mask of the first bytes
pub mask_of-take : (p : ℕ → Bool) (bs : List ℕ) (k : ℕ) → k ≤ length bs → mask_of p bs % 2 ^ k ≡ mask_of p (take k bs)
mask_of-take p bs k h =
    let long : length (take k bs) ≡ k = length-take-le k bs h in
    let parts : mask_of p bs ≡ mask_of p (drop k bs) * 2 ^ k + mask_of p (take k bs) =
    ap (mask_of p) (sym (take-append-drop k bs)) ∙ mask_of-append p (take k bs) (drop k bs) ∙ rw long (omega arith) in
    rw parts (mod_low (mask_of p (drop k bs)) k (mask_of p (take k bs)) (subst (λ n. mask_of p (take k bs) < 2 ^ n) long (mask_of-lt p (take k bs))))

pub mask_of-ones : (p : ℕ → Bool) (bs : List ℕ) → count_ones (mask_of p bs) ≡ count_by p bs
mask_of-ones p bs = rw (mask_of-is p bs) (ones-mask_l p bs)

-- 16 bytes of a text from a place on, of which the first n are looked at
pub first_ones : (p : ℕ → Bool) (bs : List ℕ) (m n : ℕ) → m ≡ mask_of p (take 16 bs) → 16 ≤ length bs → n ≤ 16 → count_ones (m % 2 ^ n) ≡ count_by p (take n bs)
first_ones p bs m n e long few =
    rw (e, mask_of-take p (take 16 bs) n (omega (arith, length-take-le 16 bs long)), take-take n 16 bs few) (mask_of-ones p (take n bs))

none_step : (p : ℕ → Bool) (x : ℕ) (xs : List ℕ) (n : ℕ) (t : Bool) → p x ≡ t → count_by p (take n xs) ≡ 0 → count_by p (take (cond (not t) (1 + n) 0) (x ∷ xs)) ≡ 0
none_step p x xs n true e h = refl
none_step p x xs n false e h =
    let more : 1 + n ≡ suc n = omega arith in
    let none : cond (p x) 1 0 ≡ 0 = ap (λ t. cond {A = ℕ} t 1 0) e in
    rw more (sum_by-cons (λ b. cond (p b) 1 0) x (take n xs) ∙ omega (arith, none, h))

none_before : (p : ℕ → Bool) (xs : List ℕ) → count_by p (take (prefix_len (λ x. not (p x)) xs) xs) ≡ 0
none_before p [] = refl
none_before p (x ∷ xs) = none_step p x xs (prefix_len (λ y. not (p y)) xs) (p x) refl (none_before p xs)

first_is : (p : ℕ → Bool) (xs : List ℕ) → length xs ≡ 16 → first_set (mask_of p xs) 16 ≡ prefix_len (λ x. not (p x)) xs
first_is p xs long = rw (mask_of-is p xs) (first_set_mask_l p xs 16 long (omega arith))

-- the first of the bytes with an LF: none is before it
pub row_few : (bs : List ℕ) (m n : ℕ) → m ≡ mask_of is_newline (take 16 bs) → 16 ≤ length bs → n ≡ first_set m 16 → n ≤ 16
row_few bs m n e long f =
    let size = length-take-le 16 bs long in
    omega (arith, f ∙ ap (λ k. first_set k 16) e ∙ first_is is_newline (take 16 bs) size, prefix_len-le-length (λ x. not (is_newline x)) (take 16 bs), size)

pub row_plain : (bs : List ℕ) (m n : ℕ) → m ≡ mask_of is_newline (take 16 bs) → 16 ≤ length bs → n ≡ first_set m 16 → newline_count (take n bs) ≡ 0
unfolding newline_count
row_plain bs m n e long f =
    let size = length-take-le 16 bs long in
    let is : n ≡ prefix_len (λ x. not (is_newline x)) (take 16 bs) = f ∙ ap (λ k. first_set k 16) e ∙ first_is is_newline (take 16 bs) size in
    let few = row_few bs m n e long f in
    subst (λ xs. count_by is_newline xs ≡ 0) (take-take n 16 bs few) (rw is (none_before is_newline (take 16 bs)))

units_of : (b : ℕ) → byte_units b ≡ cond (begins_char b) 1 0 + cond (begins_wide b) 1 0
units_of b = grind (arith, nat_tests)

pub utf16_count-wide : (bs : List ℕ) → utf16_count bs ≡ char_count bs + count_by begins_wide bs
unfolding utf16_count char_count
utf16_count-wide [] = refl
utf16_count-wide (b ∷ bs) =
    omega (arith, units_of b, utf16_count-wide bs, sum_by-cons byte_units b bs, sum_by-cons (λ x. cond (begins_char x) 1 0) b bs, sum_by-cons (λ x. cond (begins_wide x) 1 0) b bs)

each_byte : (f : ℕ → ℕ) (p : ℕ → Bool) → agree_below (λ x. top 7 (f x)) p 256 ≡ true → (v : List ℕ) → Each1 (Fits w8) v → map (top 7) (map f v) ≡ map p v
each_byte f p all [] fits = refl
each_byte f p all (x ∷ xs) fits = ap₂ (λ a b. a ∷ b) (agree_below_at (λ y. top 7 (f y)) p 256 x all fits.0.fits) (each_byte f p all xs fits.1)

-- what `to_bitmask` gives of a vector that is made of v lane by lane, where each of the 256 bytes agrees
pub masked : (f : ℕ → ℕ) (p : ℕ → Bool) (v z : List ℕ) → length v ≡ 16 → Each1 (Fits w8) v → z ≡ map f v → agree_below (λ x. top 7 (f x)) p 256 ≡ true
    → mask_l (map (top 7) z) % 2 ^ 64 ≡ mask_of p v
masked f p v z long fits e all =
    ap (λ l. mask_l l % 2 ^ 64) (ap (map (top 7)) e ∙ each_byte f p all v fits) ∙ mask_l-mod (map p v) 64 (omega (arith, long, length-map v p)) ∙ sym (mask_of-is p v)

comm : (a b : ℕ) → a + b ≡ b + a
comm a b = omega arith

pub bits_more : (p : ℕ → Bool) (xs ys : List ℕ) (mask bits at : ℕ) → length xs ≡ at → length xs + length ys ≤ 128 → mask ≡ mask_of p xs → bits ≡ mask_of p ys →
    bit_or mask (bits * 2 ^ at % 2 ^ 128) ≡ mask_of p (xs ++ ys)
bits_more p xs ys mask bits at long few m b =
    let low : mask < 2 ^ at = rw m (subst (λ n. mask_of p xs < 2 ^ n) long (mask_of-lt p xs)) in
    let high : bits < 2 ^ length ys = rw b (mask_of-lt p ys) in
    rw (shl_whole bits (length ys) at 128 high (omega (arith, long, few)))
    (or_comm mask (bits * 2 ^ at) ∙ or_shifted bits at mask low ∙ rw (m, b, ← long) (comm (mask_of p ys * 2 ^ length xs) (mask_of p xs) ∙ sym (mask_of-append p xs ys)))
