-- Folds by their numbers: the ranges of those that spans name, and the folds that stay when some are taken out.
use Rattle.std.proofs.Common.{◌≡◌, inl, inr, ℕ, suc, ◌<◌, ◌≤◌, ◌&&◌, ◌||◌, Bool, true, false, not, cond, eqb, min, max, List, [], ◌∷◌, ◌++◌, map, Some, ◌⊎◌, get_or, refl, sym, ap, ◌∙◌, subst, arith, nat_cmp}
use Rattle.std.specs.List.{All, filter, find, list_any}
use Rattle.std.specs.List.Sorted.{IsPermutation}
use Rattle.std.specs.Ordering.{is_lt, is_eq, is_gt}
use Rattle.std.specs.declared.cmp.Ordering.TheVariants.{Less}
use Rattle.std.proofs.lemmas.Bool.{cases_Bool, cases_lt, le-ltb, eq-eqb}
use Rattle.std.proofs.lemmas.Bool.Decides.{nat_tests}
use Rattle.std.proofs.lemmas.Option.{same_Some}
use Rattle.std.proofs.lemmas.List.Elements.{All-nil, All-cons, All-head, All-tail, All-map, All-weaker, filter_agree}
use Rattle.std.proofs.lemmas.List.Folds.{list_any-append, list_any_none}
use Rattle.std.proofs.lemmas.List.Kept.{AllPairs-filter}
use Rattle.std.proofs.lemmas.List.Sorted.{list_any-IsPermutation}
use Rattle.sum_tree.specs.Keyed.{Ascending, item_of_key, remove_key, below, above}
use Rattle.sum_tree.proofs.Keys.{AllPairs-cross}
use Rattle.op_model.specs.Histories.{History}
use Rattle.fold_spans.specs.Sweep.{number_of as range_number}
use Rattle.fold_spans.specs.declared.sweep.FoldRange.{FoldRange}
use Rattle.fold_map.specs.declared.fold.NumberedFold.{NumberedFold}
use Rattle.fold_map.specs.Numbered.{number_of, numbered_range, numbered_ranges, range_shares, fold_shares, without_shared}
use Rattle.fold_map.specs.Windows.{found_range, named_ranges, without_each}

-- ---- tests of numbers

less_from : (a b : ℕ) → nat_cmp a b ≡ Less → a < b
less_from a b e = grind (arith, nat_tests, e)

equal_test : (a : ℕ) → is_eq (nat_cmp a a) ≡ true
equal_test a = grind (arith, nat_tests)

unequal_test : (a b : ℕ) → a < b → is_eq (nat_cmp a b) ≡ false
unequal_test a b l = grind (arith, nat_tests, l)

lt_yes : (a b : ℕ) → a < b → is_lt (nat_cmp a b) ≡ true
lt_yes a b l = grind (arith, nat_tests, l)

lt_no : (a b : ℕ) → b ≤ a → is_lt (nat_cmp a b) ≡ false
lt_no a b l = grind (arith, nat_tests, l)

gt_yes : (a b : ℕ) → b < a → is_gt (nat_cmp a b) ≡ true
gt_yes a b l = grind (arith, nat_tests, l)

gt_no : (a b : ℕ) → a < b → is_gt (nat_cmp a b) ≡ false
gt_no a b l = grind (arith, nat_tests, l)

gt_or_equal : (a b : ℕ) → b ≤ a → is_gt (nat_cmp a b) ≡ not (eqb a b)
gt_or_equal a b l = grind (arith, nat_tests, l)

unequal : (a b : ℕ) → a < b → eqb a b ≡ false
unequal a b l = grind (arith, nat_tests, l)

unequal_back : (a b : ℕ) → a < b → eqb b a ≡ false
unequal_back a b l = grind (arith, nat_tests, l)

-- ---- ascending numbers

abbrev IsBefore : NumberedFold → NumberedFold → Type 0
IsBefore y z = nat_cmp (number_of y) (number_of z) ≡ Less

later : (x : NumberedFold) (fs : List NumberedFold) → Ascending nat_cmp number_of (x ∷ fs) → All (λ y. number_of x < number_of y) fs
later x fs a = All-weaker (IsBefore x) (λ y. number_of x < number_of y) (λ y e. less_from (number_of x) (number_of y) e) fs (AllPairs-cross IsBefore (x ∷ []) fs 0 x a (omega arith))

others : (x : NumberedFold) (fs : List NumberedFold) → Ascending nat_cmp number_of (x ∷ fs) → Ascending nat_cmp number_of fs
others x fs a i j d l m = a (suc i) (suc j) d (omega (arith, l)) (omega (arith, m))

-- ---- a fold is found by its number

find_here : (p : NumberedFold → Bool) (x : NumberedFold) (fs : List NumberedFold) → p x ≡ true → find p (x ∷ fs) ≡ Some x
find_here p x fs e = rw e refl

find_on : (p : NumberedFold → Bool) (x : NumberedFold) (fs : List NumberedFold) → p x ≡ false → find p (x ∷ fs) ≡ find p fs
find_on p x fs e = rw e refl

pub found_itself : (fs : List NumberedFold) → Ascending nat_cmp number_of fs → All (λ f. item_of_key nat_cmp number_of (number_of f) fs ≡ Some f) fs
found_itself [] a = All-nil (λ f. item_of_key nat_cmp number_of (number_of f) [] ≡ Some f)
found_itself (x ∷ fs) a =
    let l = later x fs a in
    let ih = found_itself fs (others x fs a) in
    All-cons (λ f. item_of_key nat_cmp number_of (number_of f) (x ∷ fs) ≡ Some f) x fs
    (find_here (λ y. is_eq (nat_cmp (number_of y) (number_of x))) x fs (equal_test (number_of x)))
    (λ i d k. find_on (λ y. is_eq (nat_cmp (number_of y) (number_of (get_or fs i d)))) x fs (unequal_test (number_of x) (number_of (get_or fs i d)) (l i d k)) ∙ ih i d k)

pub what_is_found : (P : NumberedFold → Type 0) (n : ℕ) (fs : List NumberedFold) (f : NumberedFold) → All P fs → item_of_key nat_cmp number_of n fs ≡ Some f → P f
what_is_found P n [] f a e = cc
what_is_found P n (x ∷ fs) f a e = go (cases_Bool (is_eq (nat_cmp (number_of x) n))) (what_is_found P n fs f (All-tail P x fs a))
  where
    go : (is_eq (nat_cmp (number_of x) n) ≡ true) ⊎ (is_eq (nat_cmp (number_of x) n) ≡ false) → (item_of_key nat_cmp number_of n fs ≡ Some f → P f) → P f
    go (inl t) ih = subst P (same_Some x f (sym (find_here (λ y. is_eq (nat_cmp (number_of y) n)) x fs t) ∙ e)) (All-head P x fs a)
    go (inr t) ih = ih (sym (find_on (λ y. is_eq (nat_cmp (number_of y) n)) x fs t) ∙ e)

-- the ranges of all folds are those that their numbers name
pub all_named : (h : History) (fs : List NumberedFold) → Ascending nat_cmp number_of fs → All (λ r. found_range h (item_of_key nat_cmp number_of (range_number r) fs) ≡ r ∷ []) (numbered_ranges h fs)
all_named h fs a = All-map (λ r. found_range h (item_of_key nat_cmp number_of (range_number r) fs) ≡ r ∷ []) (numbered_range h) fs
    (All-weaker (λ f. item_of_key nat_cmp number_of (number_of f) fs ≡ Some f) (λ f. found_range h (item_of_key nat_cmp number_of (number_of f) fs) ≡ numbered_range h f ∷ []) (λ f e. ap (found_range h) e) fs (found_itself fs a))

pub named_are : (h : History) (fs : List NumberedFold) (rs : List FoldRange) → All (λ r. found_range h (item_of_key nat_cmp number_of (range_number r) fs) ≡ r ∷ []) rs → named_ranges h fs (map range_number rs) ≡ rs
named_are h fs [] a = refl
named_are h fs (r ∷ rs) a =
    ap (λ (qs : List FoldRange). qs ++ named_ranges h fs (map range_number rs)) (All-head (λ q. found_range h (item_of_key nat_cmp number_of (range_number q) fs) ≡ q ∷ []) r rs a)
    ∙ ap (λ (qs : List FoldRange). r ∷ qs) (named_are h fs rs (All-tail (λ q. found_range h (item_of_key nat_cmp number_of (range_number q) fs) ≡ q ∷ []) r rs a))

-- ---- filters

one_stays : (b : Bool) (x : NumberedFold) (fs gs : List NumberedFold) → b ≡ true → fs ≡ gs → cond b (x ∷ fs) fs ≡ x ∷ gs
one_stays b x fs gs e g = rw e (ap (λ (ys : List NumberedFold). x ∷ ys) g)

one_goes : (b : Bool) (x : NumberedFold) (fs gs : List NumberedFold) → b ≡ false → fs ≡ gs → cond b (x ∷ fs) fs ≡ gs
one_goes b x fs gs e g = rw e g

two_alike : (b c : Bool) (x : NumberedFold) (fs gs : List NumberedFold) → b ≡ c → fs ≡ gs → cond b (x ∷ fs) fs ≡ cond c (x ∷ gs) gs
two_alike b c x fs gs e g = ap (λ (t : Bool). cond t (x ∷ fs) fs) e ∙ ap (λ (ys : List NumberedFold). cond c (x ∷ ys) ys) g

filter_all : (p : NumberedFold → Bool) (fs : List NumberedFold) → All (λ f. p f ≡ true) fs → filter p fs ≡ fs
filter_all p [] a = refl
filter_all p (x ∷ fs) a = one_stays (p x) x (filter p fs) fs (All-head (λ f. p f ≡ true) x fs a) (filter_all p fs (All-tail (λ f. p f ≡ true) x fs a))

filter_none : (p : NumberedFold → Bool) (fs : List NumberedFold) → All (λ f. p f ≡ false) fs → filter p fs ≡ []
filter_none p [] a = refl
filter_none p (x ∷ fs) a = one_goes (p x) x (filter p fs) [] (All-head (λ f. p f ≡ false) x fs a) (filter_none p fs (All-tail (λ f. p f ≡ false) x fs a))

pub filter_alike : (p q : NumberedFold → Bool) (fs : List NumberedFold) → All (λ f. p f ≡ q f) fs → filter p fs ≡ filter q fs
filter_alike p q [] a = refl
filter_alike p q (x ∷ fs) a = two_alike (p x) (q x) x (filter p fs) (filter q fs) (All-head (λ f. p f ≡ q f) x fs a) (filter_alike p q fs (All-tail (λ f. p f ≡ q f) x fs a))

again : (b : Bool) (q : NumberedFold → Bool) (x : NumberedFold) (fs gs : List NumberedFold) → filter q fs ≡ gs → filter q (cond b (x ∷ fs) fs) ≡ cond (b && q x) (x ∷ gs) gs
again true q x fs gs e = ap (λ (ys : List NumberedFold). cond (q x) (x ∷ ys) ys) e
again false q x fs gs e = e

filter_twice : (p q : NumberedFold → Bool) (fs : List NumberedFold) → filter q (filter p fs) ≡ filter (λ f. p f && q f) fs
filter_twice p q [] = refl
filter_twice p q (x ∷ fs) = again (p x) q x (filter p fs) (filter (λ f. p f && q f) fs) (filter_twice p q fs)

-- ---- taken out by a number

remove_is : (k : ℕ) (fs : List NumberedFold) → Ascending nat_cmp number_of fs → remove_key nat_cmp number_of k fs ≡ filter (λ f. not (eqb (number_of f) k)) fs
remove_is k [] a = refl
remove_is k (x ∷ fs) a = elim (cases_lt (number_of x) k) [
  | inl l ↦
      ap (λ (ys : List NumberedFold). ys ++ above nat_cmp number_of k (x ∷ fs)) (one_stays (is_lt (nat_cmp (number_of x) k)) x (below nat_cmp number_of k fs) (below nat_cmp number_of k fs) (lt_yes (number_of x) k l) refl)
      ∙ ap (λ (ys : List NumberedFold). x ∷ (below nat_cmp number_of k fs ++ ys)) (one_goes (is_gt (nat_cmp (number_of x) k)) x (above nat_cmp number_of k fs) (above nat_cmp number_of k fs) (gt_no (number_of x) k l) refl)
      ∙ ap (λ (ys : List NumberedFold). x ∷ ys) (remove_is k fs (others x fs a))
      ∙ sym (one_stays (not (eqb (number_of x) k)) x (filter (λ f. not (eqb (number_of f) k)) fs) (filter (λ f. not (eqb (number_of f) k)) fs) (ap not (unequal (number_of x) k l)) refl)
  | inr l ↦
      let m = later x fs a in
      let low : below nat_cmp number_of k fs ≡ [] = filter_none (λ f. is_lt (nat_cmp (number_of f) k)) fs (All-weaker (λ y. number_of x < number_of y) (λ f. is_lt (nat_cmp (number_of f) k) ≡ false) (λ f u. lt_no (number_of f) k (omega (arith, u, l))) fs m) in
      let high : above nat_cmp number_of k fs ≡ fs = filter_all (λ f. is_gt (nat_cmp (number_of f) k)) fs (All-weaker (λ y. number_of x < number_of y) (λ f. is_gt (nat_cmp (number_of f) k) ≡ true) (λ f u. gt_yes (number_of f) k (omega (arith, u, l))) fs m) in
      let all : filter (λ f. not (eqb (number_of f) k)) fs ≡ fs = filter_all (λ f. not (eqb (number_of f) k)) fs (All-weaker (λ y. number_of x < number_of y) (λ f. not (eqb (number_of f) k) ≡ true) (λ f u. ap not (unequal_back k (number_of f) (omega (arith, u, l)))) fs m) in
      ap (λ (ys : List NumberedFold). ys ++ above nat_cmp number_of k (x ∷ fs)) (one_goes (is_lt (nat_cmp (number_of x) k)) x (below nat_cmp number_of k fs) [] (lt_no (number_of x) k l) low)
      ∙ two_alike (is_gt (nat_cmp (number_of x) k)) (not (eqb (number_of x) k)) x (above nat_cmp number_of k fs) (filter (λ f. not (eqb (number_of f) k)) fs) (gt_or_equal (number_of x) k l) (high ∙ sym all)
]

-- the test by which a range takes a fold out
abbrev pub takes_out : ℕ → ℕ → NumberedFold → FoldRange → Bool
takes_out s e f r = range_shares s e r && eqb (number_of f) (range_number r)

without_is : (s e : ℕ) (r : FoldRange) (fs : List NumberedFold) → Ascending nat_cmp number_of fs → without_shared s e r fs ≡ filter (λ f. not (takes_out s e f r)) fs
without_is s e r fs a = go (range_shares s e r)
  where
    go : (b : Bool) → cond b (remove_key nat_cmp number_of (range_number r) fs) fs ≡ filter (λ f. not (b && eqb (number_of f) (range_number r))) fs
    go true = remove_is (range_number r) fs a
    go false = sym (filter_all (λ f. true) fs (λ i d l. refl))

de_morgan : (a b : Bool) → (not a && not b) ≡ not (a || b)
de_morgan true b = refl
de_morgan false b = refl

pub without_each_is : (s e : ℕ) (rs : List FoldRange) (fs : List NumberedFold) → Ascending nat_cmp number_of fs → without_each s e rs fs ≡ filter (λ f. not (list_any (takes_out s e f) rs)) fs
without_each_is s e [] fs a = sym (filter_all (λ f. not (list_any (takes_out s e f) [])) fs (λ i d l. refl))
without_each_is s e (r ∷ rs) fs a =
    let one : List NumberedFold = filter (λ f. not (takes_out s e f r)) fs in
    ap (without_each s e rs) (without_is s e r fs a)
    ∙ without_each_is s e rs one (AllPairs-filter IsBefore (λ f. not (takes_out s e f r)) fs a)
    ∙ filter_twice (λ f. not (takes_out s e f r)) (λ f. not (list_any (takes_out s e f) rs)) fs
    ∙ filter_agree (λ f. not (takes_out s e f r) && not (list_any (takes_out s e f) rs)) (λ f. not (list_any (takes_out s e f) (r ∷ rs))) (λ f. de_morgan (takes_out s e f r) (list_any (takes_out s e f) rs)) fs

-- ---- by their own numbers

or_none : (a b c : Bool) → a ≡ c → b ≡ false → (a || b) ≡ c
or_none true b c e f = e
or_none false b c e f = f ∙ e

and_yes : (a b : Bool) → b ≡ true → (a && b) ≡ a
and_yes true b e = e
and_yes false b e = refl

and_no : (a b : Bool) → b ≡ false → (a && b) ≡ false
and_no true b e = e
and_no false b e = refl

or_first : (a b c : Bool) → a ≡ false → b ≡ c → (a || b) ≡ c
or_first true b c e f = cc
or_first false b c e f = f

module _ (h : History) (s e : ℕ) where
  own : (fs : List NumberedFold) → Ascending nat_cmp number_of fs → All (λ f. list_any (takes_out s e f) (numbered_ranges h fs) ≡ fold_shares h s e f) fs
  own [] a = All-nil (λ f. list_any (takes_out s e f) [] ≡ fold_shares h s e f)
  own (x ∷ fs) a =
      let l = later x fs a in
      let ih = own fs (others x fs a) in
      let none : All (λ r. takes_out s e x r ≡ false) (numbered_ranges h fs) = All-map (λ r. takes_out s e x r ≡ false) (numbered_range h) fs
      (All-weaker (λ y. number_of x < number_of y) (λ y. takes_out s e x (numbered_range h y) ≡ false) (λ y k. and_no (range_shares s e (numbered_range h y)) (eqb (number_of x) (number_of y)) (unequal (number_of x) (number_of y) k)) fs l) in
      All-cons (λ f. list_any (takes_out s e f) (numbered_ranges h (x ∷ fs)) ≡ fold_shares h s e f) x fs
      (or_none (takes_out s e x (numbered_range h x)) (list_any (takes_out s e x) (numbered_ranges h fs)) (fold_shares h s e x)
      (and_yes (fold_shares h s e x) (eqb (number_of x) (number_of x)) (eq-eqb (number_of x) (number_of x) refl)) (list_any_none (takes_out s e x) (numbered_ranges h fs) none))
      (λ i d k. or_first (takes_out s e (get_or fs i d) (numbered_range h x)) (list_any (takes_out s e (get_or fs i d)) (numbered_ranges h fs)) (fold_shares h s e (get_or fs i d))
      (and_no (fold_shares h s e x) (eqb (number_of (get_or fs i d)) (number_of x)) (unequal_back (number_of x) (number_of (get_or fs i d)) (l i d k))) (ih i d k))

  no_test : (f : NumberedFold) (rs : List FoldRange) → All (λ r. range_shares s e r ≡ false) rs → list_any (takes_out s e f) rs ≡ false
  no_test f rs a = list_any_none (takes_out s e f) rs (All-weaker (λ r. range_shares s e r ≡ false) (λ r. takes_out s e f r ≡ false) (λ r k. and_false (range_shares s e r) (eqb (number_of f) (range_number r)) k) rs a)
    where
      and_false : (a b : Bool) → a ≡ false → (a && b) ≡ false
      and_false true b e = cc
      and_false false b e = refl

  -- the ranges are all those of the folds, and those before and after some of them share no byte
  pub taken_by_window : (fs : List NumberedFold) (before inside after : List FoldRange) → Ascending nat_cmp number_of fs → IsPermutation (numbered_ranges h fs) (before ++ (inside ++ after))
      → All (λ r. range_shares s e r ≡ false) before → All (λ r. range_shares s e r ≡ false) after → without_each s e inside fs ≡ filter (λ f. not (fold_shares h s e f)) fs
  taken_by_window fs before inside after a p x y =
      let o = own fs a in
      let same : (f : NumberedFold) → list_any (takes_out s e f) inside ≡ list_any (takes_out s e f) (numbered_ranges h fs) = λ f. sym (
      list_any-IsPermutation (takes_out s e f) (numbered_ranges h fs) (before ++ (inside ++ after)) p
      ∙ list_any-append (takes_out s e f) before (inside ++ after)
      ∙ or_first (list_any (takes_out s e f) before) (list_any (takes_out s e f) (inside ++ after)) (list_any (takes_out s e f) inside) (no_test f before x)
      (list_any-append (takes_out s e f) inside after ∙ or_none (list_any (takes_out s e f) inside) (list_any (takes_out s e f) after) (list_any (takes_out s e f) inside) refl (no_test f after y))
      ) in
      without_each_is s e inside fs a
      ∙ filter_alike (λ f. not (list_any (takes_out s e f) inside)) (λ f. not (fold_shares h s e f)) fs (λ i d l. ap not (same (get_or fs i d) ∙ o i d l))

-- ranges that end before s or begin after e share no byte
pub ends_before : (s e : ℕ) (r : FoldRange) → r.end ≤ s → range_shares s e r ≡ false
ends_before s e r l = le-ltb (max r.start s) (min r.end e) (omega arith)

pub begins_after : (s e : ℕ) (r : FoldRange) → e ≤ r.start → range_shares s e r ≡ false
begins_after s e r l = le-ltb (max r.start s) (min r.end e) (omega arith)

-- the ranges of the folds that stay
pub ranges_filter : (h : History) (s e : ℕ) (fs : List NumberedFold) → numbered_ranges h (filter (λ f. not (fold_shares h s e f)) fs) ≡ filter (λ r. not (range_shares s e r)) (numbered_ranges h fs)
ranges_filter h s e [] = refl
ranges_filter h s e (f ∷ fs) = go (not (fold_shares h s e f)) (ranges_filter h s e fs)
  where
    go : (b : Bool) → numbered_ranges h (filter (λ g. not (fold_shares h s e g)) fs) ≡ filter (λ r. not (range_shares s e r)) (numbered_ranges h fs)
        → numbered_ranges h (cond b (f ∷ filter (λ g. not (fold_shares h s e g)) fs) (filter (λ g. not (fold_shares h s e g)) fs))
        ≡ cond b (numbered_range h f ∷ filter (λ r. not (range_shares s e r)) (numbered_ranges h fs)) (filter (λ r. not (range_shares s e r)) (numbered_ranges h fs))
    go true i = ap (λ (rs : List FoldRange). numbered_range h f ∷ rs) i
    go false i = i

filter_kept : (p : FoldRange → Bool) (rs : List FoldRange) → All (λ r. p r ≡ true) rs → filter p rs ≡ rs
filter_kept p [] a = refl
filter_kept p (r ∷ rs) a = go (p r) (All-head (λ q. p q ≡ true) r rs a) (filter_kept p rs (All-tail (λ q. p q ≡ true) r rs a))
  where
    go : (b : Bool) → b ≡ true → filter p rs ≡ rs → cond b (r ∷ filter p rs) (filter p rs) ≡ r ∷ rs
    go true e i = ap (λ (qs : List FoldRange). r ∷ qs) i
    go false e i = cc

pub filter_apart : (s e : ℕ) (rs : List FoldRange) → All (λ r. range_shares s e r ≡ false) rs → filter (λ r. not (range_shares s e r)) rs ≡ rs
filter_apart s e rs a = filter_kept (λ r. not (range_shares s e r)) rs (All-weaker (λ r. range_shares s e r ≡ false) (λ r. not (range_shares s e r) ≡ true) (λ r k. ap not k) rs a)
