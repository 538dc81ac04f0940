-- Readers that go along: what lies before them, and what they meet.
use Rattle.std.proofs.Common.{◌≡◌, ℕ, ◌+◌, ◌-◌, ◌≤◌, ◌<◌, ◌⊎◌, ◌^◌, min, List, [], ◌∷◌, ◌++◌, refl, sym, ap, subst, inl, inr, length, take, replicate, append_assoc, length-append, ◌∙◌, arith}
use Rattle.std.proofs.lemmas.List.{append-nil, append_cancel_right, length-replicate, replicate-append-replicate, take-append-le}
use Rattle.std.proofs.Math.Seq.{take-append_seam}
use Rattle.std.specs.Cmp.Lexicographic.{slice_cmp}
use Rattle.std.specs.Ordering.{nat_cmp}
use Rattle.locators.specs.Locator.{middle, greatest_digit, between_digits}
use Rattle.locators.specs.Runs.{run_digits, digits_with}
use Rattle.locators.specs.Reading.{runs_ahead, digits_left, from_whole, AreFull, IsReady, GoesOn, IsStep, IsAt, GoAlong, Meet, IsContinued}
use Rattle.locators.specs.declared.runs.Run.{Run}
use Rattle.locators.specs.declared.reader.Reader.{Reader}
use Rattle.locators.proofs.Between.{same_digits, zeros_behind, greatest_behind, some_digit, cmp-same}
use Rattle.locators.proofs.RunLists.{run_digits-append, run_digits-one}

at-step : (a x x' : Reader) (read : List ℕ) (count : ℕ) → IsAt a x read → GoesOn x x' → digits_left x ≡ replicate count x.run.digit ++ digits_left x' → IsAt a x' (read ++ replicate count x.run.digit)
at-step a x x' read count h g e = go g
  where
    reads : digits_left a ≡ (read ++ replicate count x.run.digit) ++ digits_left x'
    reads = rw (append_assoc read (replicate count x.run.digit) (digits_left x'), ← e) h.reads

    whole : Run
    whole = record { digit = x.run.digit; count = x.taken + x.run.count }

    go : GoesOn x x' → IsAt a x' (read ++ replicate count x.run.digit)
    go (inl same) = record { runs = h.runs; passes = rw same h.passes; reads = reads }
    go (inr next) = record { runs = h.runs ++ whole ∷ []; passes = rw (append_assoc h.runs (whole ∷ []) (from_whole x'), next) h.passes; reads = reads }

pub along-step : (a b x y x' y' : Reader) → GoAlong a b x y → middle x.run.digit y.run.digit ≡ x.run.digit → IsStep x y x' y' → GoAlong a b x' y'
along-step a b x y x' y' h e s =
    let n = length-append h.read (replicate s.count x.run.digit) in
    let k = length-replicate s.count x.run.digit in
    let m = length-append (replicate s.count y.run.digit) (digits_left y') in
    let j = length-replicate s.count y.run.digit in
    let l = ap length s.b_reads in
    record {
      a_ready = s.a_ready;
      b_ready = s.b_ready;
      read = h.read ++ replicate s.count x.run.digit;
      at = at-step a x x' h.read s.count h.at s.place s.a_reads;
      b_reads = omega (arith, n, k, m, j, l, h.b_reads);
      digits = rw (
        append_assoc h.read (replicate s.count x.run.digit) (between_digits (digits_left x') (digits_left y')),
        ← same_digits s.count x.run.digit y.run.digit (digits_left x') (digits_left y') e,
        ← s.a_reads,
        ← s.b_reads,
      ) h.digits;
    }

none_left : (x : Reader) → IsReady x → x.run.count ≡ 0 → digits_left x ≡ []
none_left x h e = rw (e, h.present e) refl

pub along-ends : (a b x y : Reader) → GoAlong a b x y → (x.run.count ≡ 0) ⊎ (y.run.count ≡ 0) → min (length (digits_left a)) (length (digits_left b)) < length (between_digits (digits_left a) (digits_left b))
along-ends a b x y h o =
    let some = some_digit (digits_left x) (digits_left y) in
    let all = ap length h.digits in
    let parts = length-append h.read (between_digits (digits_left x) (digits_left y)) in
    go o some all parts
  where
    go : (x.run.count ≡ 0) ⊎ (y.run.count ≡ 0) → 0 < length (between_digits (digits_left x) (digits_left y)) → length (between_digits (digits_left a) (digits_left b)) ≡ length (h.read ++ between_digits (digits_left x) (digits_left y)) → length (h.read ++ between_digits (digits_left x) (digits_left y)) ≡ length h.read + length (between_digits (digits_left x) (digits_left y)) → min (length (digits_left a)) (length (digits_left b)) < length (between_digits (digits_left a) (digits_left b))
    go (inl e) some all parts =
        let l = ap length h.at.reads in let m = length-append h.read (digits_left x) in let z = ap length (none_left x h.a_ready e) in
        omega (arith, some, all, parts, l, m, z)
    go (inr e) some all parts = let z = ap length (none_left y h.b_ready e) in omega (arith, some, all, parts, z, h.b_reads)

-- from the first digit on
from_start : (r : Reader) → r.taken ≡ 0 → digits_left r ≡ run_digits (from_whole r)
from_start r e =
    let n : r.run.count ≡ r.taken + r.run.count = omega (arith, e) in
    ap (λ z. replicate z r.run.digit ++ run_digits (runs_ahead r.ahead)) n

pub continued_digits : (rs : List Run) (digit : ℕ) (r : Reader) (h : IsContinued rs digit r) → digits_left r ≡ run_digits rs ++ replicate h.more digit
continued_digits rs digit r h =
    let pad : Run = record { digit = digit; count = h.more } in
    from_start r h.start ∙ ap run_digits h.whole ∙ run_digits-one rs pad

-- between the digits of runs that go on with 0 and with the greatest digit lie those between the runs' own
pub continued_between : (xs ys : List Run) (a b : Reader) → IsContinued xs 0 a → IsContinued ys greatest_digit b → between_digits (digits_left a) (digits_left b) ≡ between_digits (run_digits xs) (run_digits ys)
continued_between xs ys a b p q =
    ap (λ z. between_digits z (digits_left b)) (continued_digits xs 0 a p)
    ∙ zeros_behind p.more (run_digits xs) (digits_left b)
    ∙ ap (λ z. between_digits (run_digits xs) z) (continued_digits ys greatest_digit b q)
    ∙ greatest_behind q.more (run_digits xs) (run_digits ys)

-- as long as the digits that were added
pub continued_long : (rs : List Run) (digit : ℕ) (r : Reader) → IsContinued rs digit r → 2 ^ 64 - 1 ≤ length (digits_left r)
continued_long rs digit r h =
    let l = ap length (continued_digits rs digit r h) in
    omega (arith, l, length-append (run_digits rs) (replicate h.more digit), length-replicate h.more digit, h.many)

-- how many runs lie before a place, and which digits
pub place_count : (rs : List Run) (digit : ℕ) (a met : Reader) (read : List ℕ) → IsContinued rs digit a → (h : IsAt a met read) → length rs ≡ length h.runs + length (runs_ahead met.ahead)
place_count rs digit a met read c h =
    let pad : Run = record { digit = digit; count = c.more } in
    let l = ap length c.whole in
    let m = ap length h.passes in
    omega (arith, l, m, length-append rs (pad ∷ []), length-append h.runs (from_whole met))

pub place_digits : (rs : List Run) (digit : ℕ) (a met : Reader) (read : List ℕ) → IsContinued rs digit a → (h : IsAt a met read) → length h.runs ≤ length rs → digits_with rs (length h.runs) (record { digit = met.run.digit; count = met.taken }) ≡ read
place_digits rs digit a met read c h l = rw runs_are (append_cancel_right (run_digits h.runs ++ part) read (digits_left met) both)
  where
    pad : Run
    pad = record { digit = digit; count = c.more }

    part : List ℕ
    part = replicate met.taken met.run.digit

    runs_are : take (length h.runs) rs ≡ h.runs
    runs_are =
        let e : take (length h.runs) (rs ++ pad ∷ []) ≡ take (length h.runs) rs = take-append-le (length h.runs) rs (pad ∷ []) l in
        let f : take (length h.runs) (h.runs ++ from_whole met) ≡ h.runs = take-append_seam h.runs (from_whole met) in
        let g : rs ++ pad ∷ [] ≡ h.runs ++ from_whole met = sym c.whole ∙ h.passes in
        sym e ∙ ap (λ z. take (length h.runs) z) g ∙ f

    behind : run_digits (from_whole met) ≡ part ++ digits_left met
    behind = ap (λ z. z ++ run_digits (runs_ahead met.ahead)) (sym (replicate-append-replicate met.taken met.run.count met.run.digit)) ∙ append_assoc part (replicate met.run.count met.run.digit) (run_digits (runs_ahead met.ahead))

    both : (run_digits h.runs ++ part) ++ digits_left met ≡ read ++ digits_left met
    both =
        let e : digits_left a ≡ run_digits h.runs ++ run_digits (from_whole met) = from_start a c.start ∙ ap run_digits h.passes ∙ run_digits-append h.runs (from_whole met) in
        let f : (run_digits h.runs ++ part) ++ digits_left met ≡ run_digits h.runs ++ run_digits (from_whole met) = append_assoc (run_digits h.runs) part (digits_left met) ∙ ap (λ z. run_digits h.runs ++ z) (sym behind) in
        f ∙ sym e ∙ h.reads

-- what is told of a place where two readers that go on met
pub place_told : (xs ys : List Run) (a b met : Reader) (digit n : ℕ) → IsContinued xs 0 a → IsContinued ys greatest_digit b → Meet a b met digit → n ≡ length xs - length (runs_ahead met.ahead) → (n ≤ length xs) × (digits_with xs n (record { digit = met.run.digit; count = met.taken }) ++ digit ∷ [] ≡ between_digits (run_digits xs) (run_digits ys))
place_told xs ys a b met digit n p q m e =
    let l = place_count xs 0 a met m.read p m.at in
    let same : n ≡ length m.at.runs = omega (arith, e, l) in
    let within : length m.at.runs ≤ length xs = omega (arith, l) in
    let told : digits_with xs (length m.at.runs) (record { digit = met.run.digit; count = met.taken }) ≡ m.read = place_digits xs 0 a met m.read p m.at within in
    (omega (arith, e), rw same (ap (λ z. z ++ digit ∷ []) told ∙ sym m.digits ∙ continued_between xs ys a b p q))

pub place_none : (xs ys : List Run) (a b : Reader) → IsContinued xs 0 a → IsContinued ys greatest_digit b → min (length (digits_left a)) (length (digits_left b)) < length (between_digits (digits_left a) (digits_left b)) → 2 ^ 64 ≤ length (between_digits (run_digits xs) (run_digits ys))
place_none xs ys a b p q h =
    let l = ap length (continued_between xs ys a b p q) in
    omega (arith, h, l, continued_long xs 0 a p, continued_long ys greatest_digit b q)

-- the runs of both parts, and one behind them
pub parts_one : (f l k : List Run) (p : Run) → f ++ l ≡ k → f ++ l ++ p ∷ [] ≡ k ++ p ∷ []
parts_one f l k p e = ap (λ z. z ++ p ∷ []) e

pub parts_none : (f l k : List Run) → f ++ l ≡ k → f ++ l ++ [] ≡ k
parts_none f l k e = append-nil (f ++ l) ∙ e

-- a run with which both begin does not change their order
pub same_run : (x y : Run) (xs ys k l : List Run) → k ≡ x ∷ xs → l ≡ y ∷ ys → x.digit ≡ y.digit → x.count ≡ y.count → AreFull k → AreFull l → AreFull xs × AreFull ys × (slice_cmp nat_cmp (run_digits k) (run_digits l) ≡ slice_cmp nat_cmp (run_digits xs) (run_digits ys))
same_run x y xs ys k l e f d n p q =
    let h : AreFull (x ∷ xs) = subst AreFull e p in
    let j : AreFull (y ∷ ys) = subst AreFull f q in
    (h.1, j.1, rw (e, f, ← d, ← n) (cmp-same x.count x.digit (run_digits xs) (run_digits ys)))

-- equal digits of both that are read do not change their order
pub order_step : (a b a' b' : Reader) → a.run.digit ≡ b.run.digit → IsStep a b a' b' → slice_cmp nat_cmp (digits_left a) (digits_left b) ≡ slice_cmp nat_cmp (digits_left a') (digits_left b')
order_step a b a' b' e s =
    let q : digits_left b ≡ replicate s.count a.run.digit ++ digits_left b' = s.b_reads ∙ ap (λ d. replicate s.count d ++ digits_left b') (sym e) in
    ap (λ z. slice_cmp nat_cmp z (digits_left b)) s.a_reads
    ∙ ap (λ z. slice_cmp nat_cmp (replicate s.count a.run.digit ++ digits_left a') z) q
    ∙ cmp-same s.count a.run.digit (digits_left a') (digits_left b')
