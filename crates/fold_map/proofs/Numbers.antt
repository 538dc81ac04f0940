-- Numbers of folds ascend.
use Rattle.std.proofs.Common.{◌≡◌, ℕ, ◌+◌, ◌<◌, ◌^◌, Bool, true, cond, ltb, eqb, List, [], ◌∷◌, ◌++◌, length, get_or, refl, sym, ap, subst, arith, nat_cmp, length-append}
use Rattle.std.specs.List.{All}
use Rattle.std.specs.Ordering.{is_lt, is_gt}
use Rattle.std.specs.declared.cmp.Ordering.TheVariants.{Less, Equal, Greater}
use Rattle.std.proofs.lemmas.Bool.{lt-ltb}
use Rattle.std.proofs.lemmas.Cmp.{nat_cmp_total}
use Rattle.std.proofs.lemmas.List.{length_push}
use Rattle.std.proofs.lemmas.List.Elements.{All-nil, All-cons, All-push, All-append, All-weaker, All-filter}
use Rattle.sum_tree.specs.Keyed.{Ascending, below, above, remove_key}
use Rattle.sum_tree.proofs.Keys.{AllPairs-append, parts_short}
use Rattle.fold_map.specs.Numbered.{number_of, AreNumbered}
use Rattle.fold_map.specs.declared.fold.NumberedFold.{NumberedFold}

abbrev IsBefore : NumberedFold → NumberedFold → Type 0
IsBefore y z = nat_cmp (number_of y) (number_of z) ≡ Less

less_test : (p q : Bool) → p ≡ true → cond p Less (cond q Equal Greater) ≡ Less
less_test p q e = rw e refl

less_is : (a b : ℕ) → a < b → nat_cmp a b ≡ Less
less_is a b l = less_test (ltb a b) (eqb a b) (lt-ltb a b l)

one_ascends : (x : NumberedFold) → Ascending nat_cmp number_of (x ∷ [])
one_ascends x i j d l m = absurd (omega arith)

none_ascends : Ascending nat_cmp number_of []
none_ascends i j d l m = absurd (omega arith)

pub none_numbered : (n : ℕ) (fs : List NumberedFold) → fs ≡ [] → AreNumbered n fs
none_numbered n fs e = subst (AreNumbered n) (sym e) (record {
  ascending = none_ascends;
  below = All-nil (λ f. number_of f < n);
  few = omega arith;
})

pub more_numbered : (n m : ℕ) (fs gs : List NumberedFold) (x : NumberedFold) → AreNumbered n fs → number_of x ≡ n → m ≡ n + 1 → length fs < 2 ^ 40 → gs ≡ fs ++ x ∷ [] → AreNumbered m gs
more_numbered n m fs gs x a e s l g = subst (AreNumbered m) (sym g) (record {
  ascending = AllPairs-append IsBefore fs (x ∷ []) a.ascending (one_ascends x)
      (λ i d k. All-cons (IsBefore (get_or fs i d)) x [] (less_is (number_of (get_or fs i d)) (number_of x) (let b = a.below i d k in omega arith)) (All-nil (IsBefore (get_or fs i d))));
  below = All-push (λ f. number_of f < m) fs x (All-weaker (λ f. number_of f < n) (λ f. number_of f < m) (λ f b. omega arith) fs a.below) (omega arith);
  few = let b = length_push fs x in omega arith;
})

pub fewer_numbered : (n k : ℕ) (fs gs : List NumberedFold) → AreNumbered n fs → gs ≡ remove_key nat_cmp number_of k fs → Ascending nat_cmp number_of gs → AreNumbered n gs
fewer_numbered n k fs gs a g s =
    let low : List NumberedFold = below nat_cmp number_of k fs in
    let high : List NumberedFold = above nat_cmp number_of k fs in
    record {
      ascending = s;
      below = subst (All (λ f. number_of f < n)) (sym g) (All-append (λ f. number_of f < n) low high
          (All-filter (λ x. is_lt (nat_cmp (number_of x) k)) (λ f. number_of f < n) fs a.below)
          (All-filter (λ x. is_gt (nat_cmp (number_of x) k)) (λ f. number_of f < n) fs a.below));
      few = let p = parts_short nat_cmp number_of nat_cmp_total k fs in let q = length-append low high in let r = ap length g in let f = a.few in omega arith;
    }
