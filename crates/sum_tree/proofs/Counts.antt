-- Sums that count.
use Rattle.std.proofs.Common.{[], ◌≡◌, ◌+◌, List, ◌∷◌, refl, ◌++◌, arith, length, ◌^◌, ◌<◌, ◌≤◌}
use Rattle.sum_tree.specs.Laws.{fold}
use Rattle.sum_tree.specs.Count.{count_sum}
use Rattle.sum_tree.specs.declared.count.Count.{Count}

-- the sum with one more item
pub fold_more : {S X : Type 0} (start : S) (op : S → S → S) (sum_of : X → S) (xs : List X) (x : X) → fold start op sum_of (xs ++ (x ∷ [])) ≡ op (fold start op sum_of xs) (sum_of x)
fold_more start op sum_of [] x = refl
fold_more start op sum_of (y ∷ ys) x = fold_more (op start (sum_of y)) op sum_of ys x

-- the sum of counts of one each is the length
pub fold_counts : {X : Type 0} (sum_of : X → Count) → ((x : X) → (sum_of x).items ≡ 1) → (start : Count) (xs : List X) → (fold start count_sum sum_of xs).items ≡ start.items + length xs
fold_counts sum_of one start [] = omega arith
fold_counts sum_of one start (x ∷ xs) = omega (arith, one x, fold_counts sum_of one (count_sum start (sum_of x)) xs)

-- a count of at most 2^40 fits
pub counts_fit : {X : Type 0} (xs : List X) → length xs ≤ 2 ^ 40 → (fold (record { items = 0 }) count_sum (λ (x : X). record { items = 1 }) xs).items < 2 ^ 64
counts_fit {X} xs l = let e = fold_counts (λ (x : X). record { items = 1 }) (λ x. refl) (record { items = 0 }) xs in omega arith
