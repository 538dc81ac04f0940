-- What goes to workers in turn.
use Rattle.std.proofs.Common.{◌≡◌, ℕ, zero, suc, ◌+◌, ◌-◌, ◌*◌, ◌%◌, ◌/◌, ◌<◌, ◌≤◌, ◌==◌, Bool, true, false, cond, List, [], ◌∷◌, ◌++◌, length, map, refl, sym, ap, ◌∙◌, subst, arith, length-append, append-nil}
use Rattle.std.specs.List.{All, AllPairs, filter, range_with_len}
use Rattle.std.proofs.lemmas.List.Elements.{All-cons, All-nil, All-head, All-tail, filter-append}
use Rattle.std.proofs.lemmas.List.Kept.{AllPairs-cons}
use Rattle.std.proofs.lemmas.Nat.{div-add-mod', div-mul-add, le-div, mod_below, mul-le}
use Rattle.std.proofs.Math.Nat.{suc-mul}
use Rattle.std.proofs.Math.Numerals.{suc-eq-add-one}
use Rattle.std.proofs.lemmas.Bool.{eq-eqb, eqb-true}
use Rattle.sum_tree.proofs.Keys.{AllPairs-cross, AllPairs-right}
use Rattle.op_model.proofs.Elements.{range_more}

module _ {X : Type 0} (p : X → Bool) where
  -- where it holds of what is kept, it holds of what would be kept
  pub All-unfilter : (P : X → Type 0) (xs : List X) → All P (filter p xs) → All (λ x. p x ≡ true → P x) xs
  All-unfilter P [] a = All-nil (λ x. p x ≡ true → P x)
  All-unfilter P (x ∷ xs) a = by_test (p x) refl (λ h. All-unfilter P xs h) a
    where
      by_test : (b : Bool) → p x ≡ b → (All P (filter p xs) → All (λ y. p y ≡ true → P y) xs) → All P (cond b (x ∷ filter p xs) (filter p xs)) → All (λ y. p y ≡ true → P y) (x ∷ xs)
      by_test true e rest h = All-cons (λ y. p y ≡ true → P y) x xs (λ _. All-head P x (filter p xs) h) (rest (All-tail P x (filter p xs) h))
      by_test false e rest h = All-cons (λ y. p y ≡ true → P y) x xs (λ f. absurd (cc (e, f))) (rest h)

  pub pairs_behind : (R : X → X → Type 0) (x : X) (xs : List X) → AllPairs R (filter p (x ∷ xs)) → AllPairs R (filter p xs)
  pairs_behind R x xs a = by_test (p x) a
    where
      by_test : (b : Bool) → AllPairs R (cond b (x ∷ filter p xs) (filter p xs)) → AllPairs R (filter p xs)
      by_test true h = AllPairs-right R (x ∷ []) (filter p xs) h
      by_test false h = h

  pub pairs_first : (R : X → X → Type 0) (x : X) (xs : List X) → p x ≡ true → AllPairs R (filter p (x ∷ xs)) → All (R x) (filter p xs)
  pairs_first R x xs e a = by_test (p x) e a
    where
      by_test : (b : Bool) → b ≡ true → AllPairs R (cond b (x ∷ filter p xs) (filter p xs)) → All (R x) (filter p xs)
      by_test true f h = AllPairs-cross R (x ∷ []) (filter p xs) 0 x h (omega arith)
      by_test false f h = absurd (cc f)

  filter_snoc : (xs : List X) (x : X) → filter p (xs ++ x ∷ []) ≡ filter p xs ++ cond (p x) (x ∷ []) []
  filter_snoc xs x = filter-append p xs (x ∷ [])

  pub filter_in : (xs : List X) (x : X) → p x ≡ true → filter p (xs ++ x ∷ []) ≡ filter p xs ++ x ∷ []
  filter_in xs x e = filter_snoc xs x ∙ ap (λ b. filter p xs ++ cond b (x ∷ []) []) e

  pub filter_out : (xs : List X) (x : X) → p x ≡ false → filter p (xs ++ x ∷ []) ≡ filter p xs
  filter_out xs x e = filter_snoc xs x ∙ (ap (λ b. filter p xs ++ cond b (x ∷ []) []) e ∙ append-nil (filter p xs))

  pub filter-map : {Y : Type 0} (f : Y → X) (ys : List Y) → length (filter (λ y. p (f y)) ys) ≡ length (filter p (map f ys))
  filter-map f [] = refl
  filter-map f (y ∷ ys) = by_test (p (f y)) (filter-map f ys)
    where
      by_test : (b : Bool) → length (filter (λ z. p (f z)) ys) ≡ length (filter p (map f ys)) → length (cond b (y ∷ filter (λ z. p (f z)) ys) (filter (λ z. p (f z)) ys)) ≡ length (cond b (f y ∷ filter p (map f ys)) (filter p (map f ys)))
      by_test true e = ap suc e
      by_test false e = e

module _ {X : Type 0} (turn : X → ℕ) where
  -- where it holds of each two that go to one worker, it holds of each two, if both go to one
  pub pairs_dealt : (R : X → X → Type 0) (xs : List X) → ((w : ℕ) → AllPairs R (filter (λ x. turn x == w) xs)) → AllPairs (λ x y. turn x ≡ turn y → R x y) xs
  pairs_dealt R [] h = λ i j d lt within. absurd (omega arith)
  pairs_dealt R (x ∷ xs) h =
      let S : X → X → Type 0 = λ y z. turn y ≡ turn z → R y z in
      let first : All (R x) (filter (λ y. turn y == turn x) xs) = pairs_first (λ y. turn y == turn x) R x xs (eq-eqb (turn x) (turn x) refl) (h (turn x)) in
      AllPairs-cons S x xs (λ i d within e. All-unfilter (λ y. turn y == turn x) (R x) xs first i d within (ap (λ m. m == turn x) (sym e) ∙ eq-eqb (turn x) (turn x) refl))
      (pairs_dealt R xs (λ w. pairs_behind (λ y. turn y == w) R x xs (h w)))

-- ---- how many go to one of so many workers

-- one more fits, where the next number goes to worker w
row_below : (c q n workers w : ℕ) → w < workers → n ≡ q * workers + w → c * workers + w + 1 ≤ n + workers → (c + 1) * workers + w + 1 ≤ n + 1 + workers
row_below c q n workers w some is h =
    let up : c * workers ≤ q * workers + (workers - 1) = omega arith in
    let least : c ≤ (q * workers + (workers - 1)) / workers = le-div c (q * workers + (workers - 1)) workers (omega arith) up in
    let row : (q * workers + (workers - 1)) / workers ≡ q = div-mul-add q workers (workers - 1) (omega arith) in
    let under : c * workers ≤ q * workers = mul-le c workers q workers (subst (λ (m : ℕ). c ≤ m) row least) (omega arith) in
    let one : (c + 1) * workers ≡ c * workers + workers = ap (λ (m : ℕ). m * workers) (sym (suc-eq-add-one c)) ∙ suc-mul c workers in
    omega arith

module _ (workers w : ℕ) (some : w < workers) where
  abbrev goes : ℕ → Bool
  goes x = (x - 1) % workers == w

  abbrev count_to : ℕ → ℕ
  count_to n = length (filter goes (range_with_len 1 n))

  count_to-more : (n : ℕ) → count_to (suc n) ≡ count_to n + length (cond (goes (1 + n)) ((1 + n) ∷ []) [])
  count_to-more n = ap (λ (l : List ℕ). length (filter goes l)) (range_more 1 n)
      ∙ ap (λ (l : List ℕ). length l) (filter-append goes (range_with_len 1 n) ((1 + n) ∷ [])) ∙ length-append (filter goes (range_with_len 1 n)) (cond (goes (1 + n)) ((1 + n) ∷ []) [])

  count_below : (n : ℕ) → count_to n * workers + w + 1 ≤ n + workers
  count_below zero = omega (arith, some)
  count_below (suc n) = by_turn (goes (1 + n)) refl (count_below n)
    where
      by_turn : (b : Bool) → goes (1 + n) ≡ b → count_to n * workers + w + 1 ≤ n + workers → count_to (suc n) * workers + w + 1 ≤ suc n + workers
      by_turn true e was =
          let turn : n % workers ≡ w = ap (λ (m : ℕ). m % workers) (omega arith) ∙ eqb-true ((1 + n - 1) % workers) w e in
          let row : n ≡ n / workers * workers + w = sym (div-add-mod' n workers) ∙ ap (λ (m : ℕ). n / workers * workers + m) turn in
          let more : count_to (suc n) ≡ count_to n + 1 = count_to-more n ∙ ap (λ (b : Bool). count_to n + length (cond b ((1 + n) ∷ []) [])) e in
          let h = row_below (count_to n) (n / workers) n workers w some row was in
          subst (λ (m : ℕ). m * workers + w + 1 ≤ suc n + workers) (sym more) (omega (arith, h))
      by_turn false e was =
          let same : count_to (suc n) ≡ count_to n = count_to-more n ∙ (ap (λ (b : Bool). count_to n + length (cond b ((1 + n) ∷ []) [])) e ∙ omega arith) in
          subst (λ (m : ℕ). m * workers + w + 1 ≤ suc n + workers) (sym same) (omega (arith, was))

  -- so few of n go to worker w, that all and one mark fit where a limit holds
  count_fits : (n limit : ℕ) → n ≤ limit → count_to n < limit / workers + 2
  count_fits n limit le =
      let h = count_below n in
      let split : limit / workers * workers + limit % workers ≡ limit = div-add-mod' limit workers in
      let rest : limit % workers < workers = mod_below limit workers (omega (arith, some)) in
      let up : count_to n * workers ≤ (limit / workers + 1) * workers + (workers - 1) =
      let one : (limit / workers + 1) * workers ≡ limit / workers * workers + workers = ap (λ (m : ℕ). m * workers) (sym (suc-eq-add-one (limit / workers))) ∙ suc-mul (limit / workers) workers in
      omega (arith, h, split, rest, le, one) in
      let least : count_to n ≤ ((limit / workers + 1) * workers + (workers - 1)) / workers = le-div (count_to n) ((limit / workers + 1) * workers + (workers - 1)) workers (omega (arith, some)) up in
      let row : ((limit / workers + 1) * workers + (workers - 1)) / workers ≡ limit / workers + 1 = div-mul-add (limit / workers + 1) workers (workers - 1) (omega (arith, some)) in
      omega (arith, subst (λ (m : ℕ). count_to n ≤ m) row least)

-- where things are numbered from 1, one inbox has few of them
pub few_go : {X : Type 0} (number : X → ℕ) (xs : List X) (workers w limit : ℕ) → w < workers → map number xs ≡ range_with_len 1 (length xs) → length xs ≤ limit
    → length (filter (λ x. (number x - 1) % workers == w) xs) < limit / workers + 2
few_go number xs workers w limit some numbers le =
    let same : length (filter (λ x. (number x - 1) % workers == w) xs) ≡ count_to workers w some (length xs) =
    filter-map (λ (m : ℕ). (m - 1) % workers == w) number xs ∙ ap (λ (l : List ℕ). length (filter (λ (m : ℕ). (m - 1) % workers == w) l)) numbers in
    subst (λ (m : ℕ). m < limit / workers + 2) (sym same) (count_fits workers w some (length xs) limit le)
