-- Runs of equal digits: how they join, and how many there are.
use Rattle.std.proofs.Common.{◌≡◌, ◌≢◌, ℕ, zero, suc, ◌+◌, ◌-◌, ◌≤◌, ◌<◌, ◌⊎◌, ◌^◌, List, [], ◌∷◌, ◌++◌, refl, sym, ap, subst, inl, inr, true, false, length, take, replicate, get_or, Result, Ok, Err, IfOk, nat_eq, append_assoc, length-append, ◌∙◌, arith}
use Rattle.std.proofs.lemmas.Bool.{cases_Bool, eqb-true, eqb-false}
use Rattle.std.proofs.lemmas.List.{take_more, get_or-append_right, append-nil, length-replicate, length-take-le, replicate-append-replicate}
use Rattle.std.proofs.lemmas.Result.{IfOk-weaker}
use Rattle.locators.specs.Runs.{run_digits, kept_runs, BeginsOther, AreMaximal, SharesLong, IsKept, count_runs, digits_with, LieInline}
use Rattle.locators.specs.declared.runs.Runs.{Runs}
use Rattle.std.proofs.Math.Seq.{take-append-add}
use Rattle.locators.specs.Reading.{AreFull}
use Rattle.locators.specs.declared.TheConstants.{INLINE_RUNS}
use Rattle.locators.specs.declared.runs.Run.{Run}

pub run_digits-append : (xs ys : List Run) → run_digits (xs ++ ys) ≡ run_digits xs ++ run_digits ys
run_digits-append [] ys = refl
run_digits-append (r ∷ xs) ys = rw (run_digits-append xs ys, append_assoc) refl

pub run_digits-one : (xs : List Run) (r : Run) → run_digits (xs ++ r ∷ []) ≡ run_digits xs ++ replicate r.count r.digit
run_digits-one xs r = rw (run_digits-append xs (r ∷ []), append-nil (replicate r.count r.digit)) refl

-- two runs of one digit are one
pub run_digits-both : (xs : List Run) (s r both : Run) → s.digit ≡ r.digit → both.digit ≡ r.digit → both.count ≡ s.count + r.count → run_digits (xs ++ both ∷ []) ≡ run_digits (xs ++ s ∷ []) ++ replicate r.count r.digit
run_digits-both xs s r both e f n =
    rw (run_digits-one xs both, run_digits-one xs s, append_assoc, e, f, n, replicate-append-replicate s.count r.count r.digit) refl

-- nothing of maximal runs is empty
pub full : (rs : List Run) → AreMaximal rs → AreFull rs
full [] h = tt
full (r ∷ rs) h = (h.0, full rs h.2)

pub full-one : (rs : List Run) (r : Run) → AreFull rs → 0 < r.count → AreFull (rs ++ r ∷ [])
full-one [] r h p = (p, tt)
full-one (s ∷ rs) r h p = (h.0, full-one rs r h.1 p)

begins-take : (n x : ℕ) (rs : List Run) → BeginsOther x rs → BeginsOther x (take n rs)
begins-take zero x rs h = tt
begins-take (suc n) x [] h = tt
begins-take (suc n) x (r ∷ rs) h = h

pub maximal-take : (n : ℕ) (rs : List Run) → AreMaximal rs → AreMaximal (take n rs)
maximal-take zero rs h = tt
maximal-take (suc n) [] h = tt
maximal-take (suc n) (r ∷ rs) h = (h.0, begins-take n r.digit rs h.1, maximal-take n rs h.2)

-- a run of another digit than the last one
pub maximal-one : (rs : List Run) (s r : Run) → AreMaximal (rs ++ s ∷ []) → s.digit ≢ r.digit → 0 < r.count → AreMaximal ((rs ++ s ∷ []) ++ r ∷ [])
maximal-one [] s r h d p = (h.0, d, (p, tt, tt))
maximal-one (t ∷ []) s r h d p = (h.0, h.1, maximal-one [] s r h.2 d p)
maximal-one (t ∷ u ∷ rs) s r h d p = (h.0, h.1, maximal-one (u ∷ rs) s r h.2 d p)

-- the last run may be longer
pub maximal-both : (rs : List Run) (s both : Run) → AreMaximal (rs ++ s ∷ []) → both.digit ≡ s.digit → 0 < both.count → AreMaximal (rs ++ both ∷ [])
maximal-both [] s both h e p = (p, tt, tt)
maximal-both (t ∷ []) s both h e p =
    let d : t.digit ≢ both.digit = λ i. h.1 (cc) in (h.0, d, maximal-both [] s both h.2 e p)
maximal-both (t ∷ u ∷ rs) s both h e p = (h.0, h.1, maximal-both (u ∷ rs) s both h.2 e p)

-- the first digit, if there is one, is another one
abbrev OtherDigit : ℕ → List ℕ → Type 0
OtherDigit x [] = Unit {0}
OtherDigit x (y ∷ ys) = x ≢ y

count-same : (x : ℕ) (a : List ℕ) → count_runs (x ∷ x ∷ a) ≡ count_runs (x ∷ a)
count-same x a = go (cases_Bool (nat_eq x x))
  where
    go : (nat_eq x x ≡ true) ⊎ (nat_eq x x ≡ false) → count_runs (x ∷ x ∷ a) ≡ count_runs (x ∷ a)
    go (inl e) = rw e refl
    go (inr e) = absurd (eqb-false x x e refl)

count-other : (x : ℕ) (a : List ℕ) → OtherDigit x a → count_runs (x ∷ a) ≡ suc (count_runs a)
count-other x [] h = refl
count-other x (y ∷ a) h = go (cases_Bool (nat_eq x y))
  where
    go : (nat_eq x y ≡ true) ⊎ (nat_eq x y ≡ false) → count_runs (x ∷ y ∷ a) ≡ suc (count_runs (y ∷ a))
    go (inl e) = absurd (h (eqb-true x y e))
    go (inr e) = rw e (omega arith)

count-replicate : (n x : ℕ) (a : List ℕ) → 0 < n → OtherDigit x a → count_runs (replicate n x ++ a) ≡ suc (count_runs a)
count-replicate zero x a p h = absurd (omega arith)
count-replicate (suc zero) x a p h = count-other x a h
count-replicate (suc (suc n)) x a p h = count-same x (replicate n x ++ a) ∙ count-replicate (suc n) x a (omega arith) h

other-replicate : (n x y : ℕ) (a : List ℕ) → 0 < n → x ≢ y → OtherDigit x (replicate n y ++ a)
other-replicate zero x y a p h = absurd (omega arith)
other-replicate (suc n) x y a p h = h

other-digits : (x : ℕ) (rs : List Run) → BeginsOther x rs → AreMaximal rs → OtherDigit x (run_digits rs)
other-digits x [] b h = tt
other-digits x (r ∷ rs) b h = other-replicate r.count x r.digit (run_digits rs) h.0 b

-- maximal runs are as many as their digits have
pub count_is : (rs : List Run) → AreMaximal rs → count_runs (run_digits rs) ≡ length rs
count_is [] h = refl
count_is (r ∷ rs) h =
    let all = count-replicate r.count r.digit (run_digits rs) h.0 (other-digits r.digit rs h.1 h.2) in
    let rest : count_runs (run_digits rs) ≡ length rs = count_is rs h.2 in omega (arith, all, rest)

-- a digit more makes no run less
pub count-front : (a : List ℕ) (x : ℕ) → count_runs a ≤ count_runs (a ++ x ∷ [])
count-front [] x = omega arith
count-front (y ∷ []) x = go (cases_Bool (nat_eq y x))
  where
    go : (nat_eq y x ≡ true) ⊎ (nat_eq y x ≡ false) → 1 ≤ count_runs (y ∷ x ∷ [])
    go (inl e) = rw e (omega arith)
    go (inr e) = rw e (omega arith)
count-front (y ∷ z ∷ a) x = go (count-front (z ∷ a) x) (cases_Bool (nat_eq y z))
  where
    go : count_runs (z ∷ a) ≤ count_runs (z ∷ a ++ x ∷ []) → (nat_eq y z ≡ true) ⊎ (nat_eq y z ≡ false) → count_runs (y ∷ z ∷ a) ≤ count_runs (y ∷ z ∷ a ++ x ∷ [])
    go rest (inl e) = rw e rest
    go rest (inr e) = rw e (omega (arith, rest))

pub inline-front : (a : List ℕ) (x : ℕ) → LieInline (a ++ x ∷ []) → LieInline a
inline-front a x h = (omega (arith, h.0, count-front a x), omega (arith, h.1, length-append a (x ∷ [])))

-- the first runs and one behind them, joined with the last of the first
abbrev pub GivesRuns : List Run → ℕ → Run → List Run → Type 0
GivesRuns rs count r all =
    (run_digits all ≡ digits_with rs count r) × AreMaximal all × (LieInline (digits_with rs count r) → length all ≤ INLINE_RUNS)

short_of : (rs : List Run) (count : ℕ) (r : Run) (all : List Run) → run_digits all ≡ digits_with rs count r → AreMaximal all → GivesRuns rs count r all
short_of rs count r all e h =
    (e, h, λ l. let n = count_is all h in let m = ap count_runs e in omega (arith, n, m, l.0))

pub gives_both : (rs : List Run) (count : ℕ) (s r both : Run) → AreMaximal rs → take count rs ≡ take (count - 1) rs ++ s ∷ [] → s.digit ≡ r.digit → both.digit ≡ r.digit → both.count ≡ s.count + r.count → 0 < r.count → GivesRuns rs count r (take (count - 1) rs ++ both ∷ [])
gives_both rs count s r both h t e f n p = short_of rs count r (take (count - 1) rs ++ both ∷ []) digits maximal
  where
    digits : run_digits (take (count - 1) rs ++ both ∷ []) ≡ digits_with rs count r
    digits = rw t (run_digits-both (take (count - 1) rs) s r both e f n)

    maximal : AreMaximal (take (count - 1) rs ++ both ∷ [])
    maximal =
        let m : AreMaximal (take (count - 1) rs ++ s ∷ []) = subst AreMaximal t (maximal-take count rs h) in
        maximal-both (take (count - 1) rs) s both m (cc) (omega (arith, n, p))

pub gives_other : (rs : List Run) (count : ℕ) (s r : Run) → AreMaximal rs → take count rs ≡ take (count - 1) rs ++ s ∷ [] → s.digit ≢ r.digit → 0 < r.count → GivesRuns rs count r (take count rs ++ r ∷ [])
gives_other rs count s r h t d p = short_of rs count r (take count rs ++ r ∷ []) (run_digits-one (take count rs) r) maximal
  where
    maximal : AreMaximal (take count rs ++ r ∷ [])
    maximal =
        let m : AreMaximal (take (count - 1) rs ++ s ∷ []) = subst AreMaximal t (maximal-take count rs h) in
        rw t (maximal-one (take (count - 1) rs) s r m d p)

pub gives_first : (rs : List Run) (count : ℕ) (r : Run) → count ≡ 0 → 0 < r.count → GivesRuns rs count r (take count rs ++ r ∷ [])
gives_first rs count r e p = short_of rs count r (take count rs ++ r ∷ []) (run_digits-one (take count rs) r) (rw e (p, tt, tt))

-- the digits of one run that would be too long are too many
pub too_long : (rs : List Run) (count : ℕ) (s r : Run) → take count rs ≡ take (count - 1) rs ++ s ∷ [] → 2 ^ 64 ≤ s.count + r.count → LieInline (digits_with rs count r) → ⊥
too_long rs count s r t n l =
    let all = ap length (ap run_digits t) in
    let one = ap length (run_digits-one (take (count - 1) rs) s) in
    omega (
      arith,
      l.1,
      n,
      all,
      one,
      length-append (run_digits (take count rs)) (replicate r.count r.digit),
      length-replicate r.count r.digit,
      length-append (run_digits (take (count - 1) rs)) (replicate s.count s.digit),
      length-replicate s.count s.digit,
    )

-- what holds of the value, if there is one
pub if_both : {T E : Type 0} {P Q R : T → Type 0} → ((x : T) → P x → Q x → R x) → (r : Result T E) → IfOk r P → IfOk r Q → IfOk r R
if_both f (Ok x) h k = f x h k
if_both f (Err e) h k = h

-- the last of the first runs, where they reach into the second part
pub take_in_last : (f l k : List Run) (n : ℕ) (d : Run) → f ++ l ≡ k → length f < n → n ≤ length k → take n k ≡ take (n - 1) k ++ get_or l (n - length f - 1) d ∷ []
take_in_last f l k n d e p q =
    let i : (n - 1) + 1 ≡ n = omega arith in
    let j : n - 1 - length f ≡ n - length f - 1 = omega arith in
    let m : take ((n - 1) + 1) k ≡ take (n - 1) k ++ get_or k (n - 1) d ∷ [] = take_more k (n - 1) d (omega arith) in
    let r : get_or (f ++ l) (n - 1) d ≡ get_or l (n - 1 - length f) d = get_or-append_right f l (length f) (n - 1) d refl (omega arith) in
    let s : get_or k (n - 1) d ≡ get_or l (n - length f - 1) d = ap (λ z. get_or z (n - 1) d) (sym e) ∙ r ∙ ap (λ z. get_or l z d) j in
    ap (λ z. take z k) (sym i) ∙ m ∙ ap (λ z. take (n - 1) k ++ z ∷ []) s

-- what the first runs and one more give, of a call that gives them
pub gives_digits : {E : Type 0} (rs : List Run) (count : ℕ) (r : Run) (all : List Run) → GivesRuns rs count r all → (result : Result Runs E) → IfOk result (λ runs. kept_runs runs ≡ all) → IfOk result (λ runs. run_digits (kept_runs runs) ≡ digits_with rs count r)
gives_digits rs count r all g result = IfOk-weaker result (λ runs. kept_runs runs ≡ all) (λ runs. run_digits (kept_runs runs) ≡ digits_with rs count r) (λ x e. ap run_digits e ∙ g.0)

pub gives_kept : {E : Type 0} (rs : List Run) (count : ℕ) (r : Run) (all : List Run) → GivesRuns rs count r all → (result : Result Runs E) → IfOk result (λ runs. kept_runs runs ≡ all) → IfOk result SharesLong → IfOk result IsKept
gives_kept rs count r all g = if_both {P = λ runs. kept_runs runs ≡ all} {Q = SharesLong} {R = IsKept} (λ x e l. (subst AreMaximal (sym e) g.1, l))

pub gives_short : (rs : List Run) (count n : ℕ) (r x : Run) → GivesRuns rs count r (take n rs ++ x ∷ []) → n ≤ length rs → LieInline (digits_with rs count r) → n < INLINE_RUNS
gives_short rs count n r x g h l = let m = g.2 l in omega (arith, m, length-append (take n rs) (x ∷ []), length-take-le n rs h)

-- a front and the first of what follows it
pub front_and_part : (f l : List Run) (n : ℕ) → length f ≤ n → f ++ take (n - length f) l ≡ take n (f ++ l)
front_and_part f l n h =
    let m : length f + (n - length f) ≡ n = omega arith in
    sym (take-append-add f l (n - length f)) ∙ ap (λ z. take z (f ++ l)) m
