-- Ranges in another order, and those of them that pass a test.
use Rattle.std.proofs.Common.{◌≡◌, inl, inr, ℕ, ◌+◌, ◌<◌, ◌&&◌, Bool, true, false, cond, eqb, List, [], ◌∷◌, ◌++◌, refl, sym, ap, ◌∙◌, subst, arith}
use Rattle.std.specs.List.{filter, sum_by}
use Rattle.std.specs.List.Sorted.{IsPermutation}
use Rattle.std.proofs.lemmas.Bool.{cases_Bool, eqb-true, eq-eqb}
use Rattle.std.proofs.lemmas.List.Sums.{sum_by-cons, sum_by-append}
use Rattle.std.proofs.lemmas.List.Sorted.{IsPermutation-refl, IsPermutation-cons, IsPermutation-middle, IsPermutation-sym, IsPermutation-trans, sum_by-IsPermutation}
use Rattle.fold_spans.specs.declared.sweep.FoldRange.{FoldRange}
use Rattle.fold_map.proofs.Moved.{equal_ranges}

-- how many pass a test
abbrev one : Bool → ℕ
one b = cond b 1 0

abbrev count : (FoldRange → Bool) → List FoldRange → ℕ
count p xs = sum_by (λ x. one (p x)) xs

count_cons : (p : FoldRange → Bool) (x : FoldRange) (xs : List FoldRange) → count p (x ∷ xs) ≡ one (p x) + count p xs
count_cons p x xs = sum_by-cons (λ y. one (p y)) x xs

-- ---- a range that is found

abbrev is_it : FoldRange → FoldRange → Bool
is_it r x = eqb r.start x.start && (eqb r.end x.end && eqb r.number x.number)

first_true : (a b : Bool) → (a && b) ≡ true → a ≡ true
first_true true b e = refl
first_true false b e = cc

second_true : (a b : Bool) → (a && b) ≡ true → b ≡ true
second_true true b e = e
second_true false b e = cc

it_is : (r x : FoldRange) → is_it r x ≡ true → r ≡ x
it_is r x e =
    let w : (eqb r.end x.end && eqb r.number x.number) ≡ true = second_true (eqb r.start x.start) (eqb r.end x.end && eqb r.number x.number) e in
    equal_ranges r x
    (eqb-true r.start x.start (first_true (eqb r.start x.start) (eqb r.end x.end && eqb r.number x.number) e))
    (eqb-true r.end x.end (first_true (eqb r.end x.end) (eqb r.number x.number) w))
    (eqb-true r.number x.number (second_true (eqb r.end x.end) (eqb r.number x.number) w))

itself : (r : FoldRange) → is_it r r ≡ true
itself r = rw (eq-eqb r.start r.start refl, eq-eqb r.end r.end refl, eq-eqb r.number r.number refl) refl

found : (r : FoldRange) (ys : List FoldRange) → 0 < count (is_it r) ys → (us : List FoldRange) × (vs : List FoldRange) × (ys ≡ us ++ r ∷ vs)
found r [] l = absurd (omega (arith, l))
found r (y ∷ ys) l = elim (cases_Bool (is_it r y)) [
  | inl t ↦ ([], ys, ap (λ (x : FoldRange). x ∷ ys) (sym (it_is r y t)))
  | inr f ↦
      let c = count_cons (is_it r) y ys in
      let d : one (is_it r y) ≡ 0 = ap one f in
      let w = found r ys (omega (arith, l, c, d)) in
      (y ∷ w.0, w.1, ap (λ (zs : List FoldRange). y ∷ zs) w.2)
]

-- ---- as many of each

same_counts : (xs ys : List FoldRange) → ((p : FoldRange → Bool) → count p xs ≡ count p ys) → IsPermutation xs ys
same_counts [] [] e = IsPermutation-refl []
same_counts [] (y ∷ ys) e = absurd (let c = count_cons (λ z. true) y ys in let d = e (λ z. true) in omega (arith, c, d))
same_counts (x ∷ xs) ys e =
    let c = count_cons (is_it x) x xs in
    let d = e (is_it x) in
    let i : one (is_it x x) ≡ 1 = ap one (itself x) in
    let w = found x ys (omega (arith, c, d, i)) in
    let us : List FoldRange = w.0 in
    let vs : List FoldRange = w.1 in
    let rest : (p : FoldRange → Bool) → count p xs ≡ count p (us ++ vs) = λ p. (
    let f = count_cons p x xs in
    let g = count_cons p x vs in
    let h = ap (count p) w.2 in
    let k = sum_by-append (λ y. one (p y)) us (x ∷ vs) in
    let m = sum_by-append (λ y. one (p y)) us vs in
    let n = e p in omega (arith, f, g, h, k, m, n)
    ) in
    subst (IsPermutation (x ∷ xs)) (sym w.2)
    (IsPermutation-trans (x ∷ xs) (x ∷ (us ++ vs)) (us ++ x ∷ vs) (IsPermutation-cons x xs (us ++ vs) (same_counts xs (us ++ vs) rest))
    (IsPermutation-sym (us ++ x ∷ vs) (x ∷ (us ++ vs)) (IsPermutation-middle us x vs)))

-- ---- those that pass a test

one_passes : (b : Bool) (p : FoldRange → Bool) (x : FoldRange) (fs : List FoldRange) → count p (cond b (x ∷ fs) fs) ≡ one (b && p x) + count p fs
one_passes true p x fs = count_cons p x fs
one_passes false p x fs = omega arith

count_filter : (p q : FoldRange → Bool) (xs : List FoldRange) → count p (filter q xs) ≡ count (λ x. q x && p x) xs
count_filter p q [] = refl
count_filter p q (x ∷ xs) =
    one_passes (q x) p x (filter q xs) ∙ ap (λ (n : ℕ). one (q x && p x) + n) (count_filter p q xs) ∙ sym (count_cons (λ y. q y && p y) x xs)

pub filter_permutation : (q : FoldRange → Bool) (xs ys : List FoldRange) → IsPermutation xs ys → IsPermutation (filter q xs) (filter q ys)
filter_permutation q xs ys i = same_counts (filter q xs) (filter q ys)
    (λ p. count_filter p q xs ∙ sym (sum_by-IsPermutation (λ x. one (q x && p x)) xs ys i) ∙ sym (count_filter p q ys))
