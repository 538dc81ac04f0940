-- Runs of deleted cells: one more of them, and those of an edit.
use Rattle.std.proofs.Common.{◌≡◌, ℕ, suc, ◌+◌, ◌-◌, ◌<◌, ◌≤◌, Bool, true, false, cond, ◌&&◌, List, [], ◌∷◌, ◌++◌, length, get_or, slice_get, refl, sym, ap, ◌∙◌, inl, inr, Option, None, Some, arith, subst, nat_lt, append_assoc}
use Rattle.std.proofs.lemmas.Bool.{cases_Bool, cases_lt, and_from, and_left, and_parts, both_ways, lt-ltb, le-ltb, ltb-true, ltb-false}
use Rattle.std.proofs.lemmas.Option.{same_Some}
use Rattle.std.proofs.lemmas.List.{append-nil}
use Rattle.std.proofs.lemmas.Cmp.{alike_right}
use Rattle.std.specs.List.{AllByRecursion, filter, find}
use Rattle.std.specs.Ordering.{nat_cmp, ordering_then, ordering_reverse, is_lt, is_eq, is_gt}
use Rattle.std.specs.declared.cmp.Ordering.{Ordering}
use Rattle.std.specs.declared.cmp.Ordering.TheVariants.{Less, Equal, Greater}
use Rattle.sum_tree.specs.Keyed.{Ascending, below, above, insert_item}
use Rattle.sum_tree.proofs.Keys.{less_of, ascending_rest, ascending_inserted}
use Rattle.tree_cursor.specs.Places.{seek_count}
use Rattle.tree_cursor.specs.Keys.{greater, key_less, key_passes}
use Rattle.tree_cursor.specs.declared.ready.Greatest.{Greatest}
use Rattle.tree_cursor.specs.declared.traits.Bias.TheVariants.{Left}
use Rattle.lamport_clock.specs.declared.stamp.Lamport.{Lamport}
use Rattle.lamport_clock.specs.Stamps.{same_stamp, stamp_cmp, stamp_order}
use Rattle.lamport_clock.proofs.Order.{is_eq-same, same_both_Equal, less_apart}
use Rattle.op_model.proofs.Elements.{each_map, each_filter, each_append}
use Rattle.undo_map.proofs.Seeking.{key_less_next}
use Rattle.locators.proofs.Between.{nat_cmp-below, nat_cmp-Less}
use Rattle.fragments.specs.declared.index_entry.IndexKey.{IndexKey}
use Rattle.fragments.specs.declared.deleted_run.DeletedRun.{DeletedRun}
use Rattle.fragments.specs.Index.{key_cmp, key_order}
use Rattle.fragments.specs.DeletedRuns.{run_key, AreNumbered, few_runs, with_run, keep_run, is_run_of, is_below, has_deleted, run_count, run_from}
use Rattle.fragments.proofs.Entries.{key_is}
use Rattle.fragments.proofs.Searching.{less, order, move, at, same_edit, then_less, later_of}

-- ---- a key that no item has

abbrev pub total : {T : Type 0} → (T → ℕ) → List T → ℕ
total g [] = 0
total g (x ∷ xs) = g x + total g xs

total_append : {T : Type 0} (g : T → ℕ) (xs ys : List T) → total g (xs ++ ys) ≡ total g xs + total g ys
total_append g [] ys = omega arith
total_append g (x ∷ xs) ys = let h = total_append g xs ys in omega (arith, h)

total_long : {T : Type 0} (xs : List T) → length xs ≡ total (λ x. 1) xs
total_long [] = refl
total_long (x ∷ xs) = let h = total_long xs in omega (arith, h)

module _ {T K : Type 0} (cmp : K → K → Ordering) (key : T → K) (k : K) where
  abbrev Other : T → Type 0
  Other x = is_eq (cmp (key x) k) ≡ false

  total_parts : (g : T → ℕ) (xs : List T) → AllByRecursion Other xs → total g (below cmp key k xs) + total g (above cmp key k xs) ≡ total g xs
  total_parts g [] o = refl
  total_parts g (y ∷ xs) o = go (cmp (key y) k) refl (total_parts g xs o.1)
    where
      go : (c : Ordering) → cmp (key y) k ≡ c → total g (below cmp key k xs) + total g (above cmp key k xs) ≡ total g xs → total g (below cmp key k (y ∷ xs)) + total g (above cmp key k (y ∷ xs)) ≡ g y + total g xs
      go Less e h = rw (e) (omega (arith, h))
      go Equal e h = let f : is_eq (cmp (key y) k) ≡ true = ap is_eq e in absurd (both_ways _ o.0 f)
      go Greater e h = rw (e) (omega (arith, h))

total_put : {T K : Type 0} (cmp : K → K → Ordering) (key : T → K) (g : T → ℕ) (x : T) (xs : List T) → AllByRecursion (Other cmp key (key x)) xs → total g (insert_item cmp key x xs) ≡ g x + total g xs
total_put cmp key g x xs o =
    let a = total_append g (below cmp key (key x) xs) (x ∷ above cmp key (key x) xs) in
    let p = total_parts cmp key (key x) g xs o in
    omega (arith, a, p)

-- ---- one more run

abbrev run : Lamport → ℕ → Lamport → ℕ → ℕ → DeletedRun
run t i s k n = record { edit = t; number = i; stamp = s; offset = k; len = n }

equal_of : (c : Ordering) → is_eq c ≡ true → c ≡ Equal
equal_of Less e = cc
equal_of Equal e = refl
equal_of Greater e = cc

other_number : (x r : DeletedRun) → r.number < x.number → is_eq (key_cmp (run_key r) (run_key x)) ≡ false
other_number x r l = elim (cases_Bool (is_eq (key_cmp (run_key r) (run_key x)))) [
  | inr f ↦ f
  | inl e ↦ (let q : r.number ≡ x.number = ap (λ (k : IndexKey). k.offset.0) (key_is (run_key r) (run_key x) (equal_of _ e)) in absurd (omega (arith, l, q)))
]

fresh : (x : DeletedRun) (rs : List DeletedRun) → AllByRecursion (λ (r : DeletedRun). r.number < x.number) rs → AllByRecursion (Other key_cmp run_key (run_key x)) rs
fresh x rs b = each_map (λ (r : DeletedRun). r.number < x.number) (Other key_cmp run_key (run_key x)) (λ r l. other_number x r l) rs b

abbrev pub one_run : Lamport → Lamport → ℕ → DeletedRun → ℕ
one_run t s k r = cond (has_deleted t s k r) 1 0

count_total : (t s : Lamport) (k : ℕ) (rs : List DeletedRun) → run_count t s k rs ≡ total (one_run t s k) rs
count_total t s k [] = refl
count_total t s k (r ∷ rs) = let h = count_total t s k rs in omega (arith, h)

-- the runs with one more have one more for its cells, and no other
pub run_added : (t s u z : Lamport) (k o n : ℕ) (rs : List DeletedRun) → AreNumbered rs → run_count t s k (with_run u z o n rs) ≡ one_run t s k (run u (length rs) z o n) + run_count t s k rs
run_added t s u z k o n rs a =
    let x : DeletedRun = run u (length rs) z o n in
    let p = total_put key_cmp run_key (one_run t s k) x rs (fresh x rs a.below) in
    let e = count_total t s k rs in
    let f = count_total t s k (with_run u z o n rs) in
    omega (arith, p, e, f)

pub runs_long : (u z : Lamport) (o n : ℕ) (rs : List DeletedRun) → AreNumbered rs → length (with_run u z o n rs) ≡ suc (length rs)
runs_long u z o n rs a =
    let x : DeletedRun = run u (length rs) z o n in
    let p = total_put key_cmp run_key (λ r. 1) x rs (fresh x rs a.below) in
    let e = total_long rs in
    let f = total_long (with_run u z o n rs) in
    omega (arith, p, e, f)

pub numbered_more : (u z : Lamport) (o n : ℕ) (rs : List DeletedRun) → AreNumbered rs → AreNumbered (with_run u z o n rs)
numbered_more u z o n rs a =
    let x : DeletedRun = run u (length rs) z o n in
    let l : length (with_run u z o n rs) ≡ suc (length rs) = runs_long u z o n rs a in
    let low : AllByRecursion (λ (r : DeletedRun). r.number < length (with_run u z o n rs)) rs =
    each_map (λ (r : DeletedRun). r.number < length rs) (λ (r : DeletedRun). r.number < length (with_run u z o n rs)) (λ r m. omega (arith, l, m)) rs a.below in
    record {
      ascending = ascending_inserted key_cmp run_key key_order x rs a.ascending;
      below = each_append (λ (r : DeletedRun). r.number < length (with_run u z o n rs)) (below key_cmp run_key (run_key x) rs) (x ∷ above key_cmp run_key (run_key x) rs)
          (each_filter (λ (r : DeletedRun). r.number < length (with_run u z o n rs)) (λ y. is_lt (key_cmp (run_key y) (run_key x))) rs low)
          (omega (arith, l), each_filter (λ (r : DeletedRun). r.number < length (with_run u z o n rs)) (λ y. is_gt (key_cmp (run_key y) (run_key x))) rs low);
    }

-- if there is room for more than the runs that are kept, all of them are
pub all_kept : (u z : Lamport) (o n : ℕ) (rs : List DeletedRun) → few_runs (keep_run u z o n rs) ≡ true → (few_runs rs ≡ true) × (keep_run u z o n rs ≡ with_run u z o n rs)
all_kept u z o n rs h = elim (cases_Bool (few_runs rs)) [
  | inl e ↦ (e, ap (λ (b : Bool). cond b (with_run u z o n rs) rs) e)
  | inr e ↦ absurd (both_ways _ e (sym (ap (λ (b : Bool). few_runs (cond b (with_run u z o n rs) rs)) e) ∙ h))
]

pub numbered_kept : (u z : Lamport) (o n : ℕ) (rs : List DeletedRun) → AreNumbered rs → AreNumbered (keep_run u z o n rs)
numbered_kept u z o n rs a = elim (cases_Bool (few_runs rs)) [
  | inl e ↦ subst AreNumbered (sym (ap (λ (b : Bool). cond b (with_run u z o n rs) rs) e)) (numbered_more u z o n rs a)
  | inr e ↦ subst AreNumbered (sym (ap (λ (b : Bool). cond b (with_run u z o n rs) rs) e)) a
]

pub none_numbered : AreNumbered []
none_numbered = record { ascending = λ i j d l m. absurd (omega arith); below = tt }

-- ---- the runs of an edit

filter_same : {A : Type 0} (p q : A → Bool) (xs : List A) → AllByRecursion (λ x. p x ≡ q x) xs → filter p xs ≡ filter q xs
filter_same p q [] h = refl
filter_same p q (x ∷ xs) h = rw (h.0, filter_same p q xs h.1) refl

filter_none : {A : Type 0} (p : A → Bool) (xs : List A) → find p xs ≡ None → filter p xs ≡ []
filter_none p [] h = refl
filter_none p (x ∷ xs) h = elim (cases_Bool (p x)) [
  | inl e ↦ absurd (cc (rw e at h))
  | inr e ↦ rw e (filter_none p xs (rw e at h))
]

none_found : {A : Type 0} (p : A → Bool) (xs : List A) → AllByRecursion (λ x. p x ≡ false) xs → find p xs ≡ None
none_found p [] h = refl
none_found p (x ∷ xs) h = rw (h.0) (none_found p xs h.1)

all_at : {A : Type 0} (R : A → Type 0) (xs : List A) → ((j : ℕ) (d : A) → j < length xs → R (get_or xs j d)) → AllByRecursion R xs
all_at R [] f = tt
all_at R (x ∷ xs) f = (f 0 x (omega arith), all_at R xs (λ j d l. f (suc j) d (omega arith)))

abbrev AreAscending : List DeletedRun → Type 0
AreAscending rs = Ascending key_cmp run_key rs

abbrev Behind : DeletedRun → DeletedRun → Type 0
Behind x y = key_cmp (run_key x) (run_key y) ≡ Less

all_behind : (x : DeletedRun) (rs : List DeletedRun) → AreAscending (x ∷ rs) → AllByRecursion (Behind x) rs
all_behind x rs a = all_at (Behind x) rs (λ j d l. a 0 (suc j) d (omega arith) (omega arith))

-- all runs of the edit are below the number of all
pub all_below : (t : Lamport) (n : ℕ) (rs : List DeletedRun) → AllByRecursion (λ (r : DeletedRun). r.number < n) rs → filter (is_below t n) rs ≡ filter (is_run_of t) rs
all_below t n rs b = filter_same (is_below t n) (is_run_of t) rs (each_map (λ (r : DeletedRun). r.number < n) (λ r. is_below t n r ≡ is_run_of t r) (λ r l. one r (lt-ltb r.number n l)) rs b)
  where
    one : (r : DeletedRun) → nat_lt r.number n ≡ true → is_below t n r ≡ is_run_of t r
    one r e = go (same_stamp r.edit t)
      where
        go : (b : Bool) → (b && nat_lt r.number n) ≡ b
        go true = e
        go false = refl

pub none_below : (t : Lamport) (rs : List DeletedRun) → filter (is_below t 0) rs ≡ []
none_below t [] = refl
none_below t (r ∷ rs) = rw (go (same_stamp r.edit t)) (none_below t rs)
  where
    go : (b : Bool) → (b && nat_lt r.number 0) ≡ false
    go true = le-ltb r.number 0 (omega arith)
    go false = refl

pub no_further : (t : Lamport) (n : ℕ) (rs : List DeletedRun) → find (is_below t n) rs ≡ None → filter (is_below t n) rs ≡ []
no_further t n rs h = filter_none (is_below t n) rs h

-- of one edit, runs that come later have lesser numbers
lesser : (t : Lamport) (x y : DeletedRun) → same_stamp x.edit t ≡ true → same_stamp y.edit t ≡ true → Behind x y → y.number < x.number
lesser t x y s z b =
    let e : key_cmp (run_key x) (run_key y) ≡ nat_cmp y.number x.number = ap (λ (c : Ordering). ordering_then c (nat_cmp y.number x.number)) (same_both_Equal x.edit t y.edit s z) in
    nat_cmp-Less y.number x.number (sym e ∙ b)

found_is : {A : Type 0} (p : A → Bool) (xs : List A) (x : A) → find p xs ≡ Some x → p x ≡ true
found_is p [] x h = cc
found_is p (y ∷ xs) x h = elim (cases_Bool (p y)) [
  | inl e ↦ (let q : y ≡ x = same_Some y x (rw e at h) in ap p (sym q) ∙ e)
  | inr e ↦ found_is p xs x (rw e at h)
]

-- the run that is found is followed by those of lesser numbers
pub one_further : (t : Lamport) (n : ℕ) (rs : List DeletedRun) (r : DeletedRun) → AreAscending rs → find (is_below t n) rs ≡ Some r → filter (is_below t n) rs ≡ r ∷ filter (is_below t r.number) rs
one_further t n [] r a h = cc
one_further t n (x ∷ rs) r a h = elim (cases_Bool (is_below t n x)) [
  | inl e ↦ (let q : x ≡ r = same_Some x r (rw e at h) in
      let k = and_parts (same_stamp x.edit t) (nat_lt x.number n) e in
      let self : is_below t x.number x ≡ false = go (same_stamp x.edit t) (le-ltb x.number x.number (omega arith)) in
      let rest : filter (is_below t n) rs ≡ filter (is_below t x.number) rs = filter_same (is_below t n) (is_below t x.number) rs
      (each_map (Behind x) (λ y. is_below t n y ≡ is_below t x.number y) (λ y b. same y k.0 (ltb-true x.number n k.1) b) rs (all_behind x rs a)) in
      subst (λ (z : DeletedRun). filter (is_below t n) (x ∷ rs) ≡ z ∷ filter (is_below t z.number) (x ∷ rs)) q (rw (e, self) (ap (λ (ys : List DeletedRun). x ∷ ys) rest)))
  | inr e ↦ (let g : find (is_below t n) rs ≡ Some r = rw e at h in
      let k = and_parts (same_stamp r.edit t) (nat_lt r.number n) (found_is (is_below t n) rs r g) in
      let l : r.number < n = ltb-true r.number n k.1 in
      let f : is_below t r.number x ≡ false = less_too (same_stamp x.edit t) l e in
      rw (e, f) (one_further t n rs r (ascending_rest key_cmp run_key x rs a) g))
]
  where
    go : (b : Bool) → {c : Bool} → c ≡ false → (b && c) ≡ false
    go true f = f
    go false f = refl

    same : (y : DeletedRun) → same_stamp x.edit t ≡ true → x.number < n → Behind x y → is_below t n y ≡ is_below t x.number y
    same y s l b = elim (cases_Bool (same_stamp y.edit t)) [
      | inl z ↦ (let m = lesser t x y s z b in and_from _ _ z (lt-ltb y.number n (omega (arith, l, m))) ∙ sym (and_from _ _ z (lt-ltb y.number x.number m)))
      | inr z ↦ and_left _ _ z ∙ sym (and_left _ _ z)
    ]

    less_too : (b : Bool) → r.number < n → (b && nat_lt x.number n) ≡ false → (b && nat_lt x.number r.number) ≡ false
    less_too true l e = let m : n ≤ x.number = ltb-false x.number n e in le-ltb x.number r.number (omega (arith, l, m))
    less_too false l e = refl

-- ---- the seek

abbrev run_sum : DeletedRun → Greatest IndexKey
run_sum r = record { key = Some (run_key r) }

step : (r : DeletedRun) (rs : List DeletedRun) (n : ℕ) → slice_get (r ∷ rs) (1 + n) ≡ slice_get rs n
step r rs n = ap (slice_get (r ∷ rs)) (let q : 1 + n ≡ suc n = omega arith in q)

pub run_sought : (k : IndexKey) (p : Option IndexKey) (rs : List DeletedRun) → key_less less p (Some k) ≡ true
    → slice_get rs (seek_count move run_sum (λ q. key_passes less (Some k) q Left) p rs) ≡ run_from k rs
run_sought k p [] h = refl
run_sought k p (r ∷ rs) h = elim (cases_Bool (less (run_key r) k)) [
  | inl l ↦ (let q = key_less_next less order p (run_key r) k h ∙ l in
      let next : Option IndexKey = greater less p (Some (run_key r)) in
      rw (q, l) (step r rs (seek_count move run_sum (λ z. key_passes less (Some k) z Left) next rs) ∙ run_sought k next rs q))
  | inr l ↦ (let q = key_less_next less order p (run_key r) k h ∙ l in rw (q, l) refl)
]

-- a run whose key is less is not below the number
not_yet : (t : Lamport) (n : ℕ) (r : DeletedRun) → less (run_key r) (at t n) ≡ true → is_below t (suc n) r ≡ false
not_yet t n r l = elim (cases_Bool (is_below t (suc n) r)) [
  | inr f ↦ f
  | inl c ↦ (let k = and_parts (same_stamp r.edit t) (nat_lt r.number (suc n)) c in
      let m : n < r.number = nat_cmp-Less n r.number (sym (same_edit (run_key r) (at t n) k.0) ∙ less_of _ l) in
      let g : r.number < suc n = ltb-true r.number (suc n) k.1 in absurd (omega (arith, m, g)))
]

now_below : (t : Lamport) (n : ℕ) (r : DeletedRun) → less (run_key r) (at t n) ≡ false → same_stamp r.edit t ≡ true → is_below t (suc n) r ≡ true
now_below t n r l s = elim (cases_lt n r.number) [
  | inl m ↦ absurd (both_ways _ l (ap is_lt (same_edit (run_key r) (at t n) s ∙ nat_cmp-below n r.number m)))
  | inr m ↦ and_from _ _ s (lt-ltb r.number (suc n) (omega (arith, m)))
]

-- a later edit's run comes after all runs of the edit
none_after : (t : Lamport) (n : ℕ) (x : DeletedRun) (rs : List DeletedRun) → stamp_cmp t x.edit ≡ Less → AllByRecursion (Behind x) rs → AllByRecursion (λ r. is_below t n r ≡ false) rs
none_after t n x rs s b = each_map (Behind x) (λ r. is_below t n r ≡ false) one rs b
  where
    one : (y : DeletedRun) → Behind x y → is_below t n y ≡ false
    one y c =
        let after : stamp_cmp t y.edit ≡ Less = elim (then_less _ _ c) [
          | inl l ↦ stamp_order.trans t x.edit y.edit s l
          | inr e ↦ sym (alike_right stamp_order x.edit y.edit t e) ∙ s
        ] in
        and_left (same_stamp y.edit t) (nat_lt y.number n) (less_apart t y.edit after)

abbrev pub of_edit : Lamport → Option DeletedRun → Option DeletedRun
of_edit t None = None
of_edit t (Some r) = cond (same_stamp r.edit t) (Some r) None

front_run : (t : Lamport) (n : ℕ) (rs : List DeletedRun) → AreAscending rs → of_edit t (run_from (at t n) rs) ≡ find (is_below t (suc n)) rs
front_run t n [] a = refl
front_run t n (x ∷ rs) a = elim (cases_Bool (less (run_key x) (at t n))) [
  | inl l ↦ (let c = not_yet t n x l in rw (l, c) (front_run t n rs (ascending_rest key_cmp run_key x rs a)))
  | inr l ↦ elim (cases_Bool (same_stamp x.edit t)) [
    | inl s ↦ (let c = now_below t n x l s in rw (l, c, s) refl)
    | inr s ↦ (let g : stamp_cmp x.edit t ≡ Greater = later_of (stamp_cmp x.edit t) (nat_cmp n x.number) l (is_eq-same x.edit t ∙ s) in
        let c : is_below t (suc n) x ≡ false = and_left (same_stamp x.edit t) (nat_lt x.number (suc n)) s in
        let z = none_found (is_below t (suc n)) rs (none_after t (suc n) x rs (stamp_order.antisymm t x.edit ∙ ap ordering_reverse g) (all_behind x rs a)) in
        rw (l, c, s) (sym z))
  ]
]

-- what is found below a number
pub found_run : (t : Lamport) (n : ℕ) (rs : List DeletedRun) (r : Option DeletedRun) → 0 < n → AreAscending rs → r ≡ run_from (at t (n - 1)) rs → of_edit t r ≡ find (is_below t n) rs
found_run t n rs r l a e =
    let q : suc (n - 1) ≡ n = omega (arith, l) in
    ap (of_edit t) e ∙ front_run t (n - 1) rs a ∙ ap (λ (m : ℕ). find (is_below t m) rs) q

-- it is of the edit, of another one, or there is none
pub found_same : (t : Lamport) (n : ℕ) (rs : List DeletedRun) (r : DeletedRun) → 0 < n → AreAscending rs → Some r ≡ run_from (at t (n - 1)) rs → same_stamp r.edit t ≡ true → Some r ≡ find (is_below t n) rs
found_same t n rs r l a e s = sym (ap (λ (b : Bool). cond {A = Option DeletedRun} b (Some r) None) s) ∙ found_run t n rs (Some r) l a e

pub found_other : (t : Lamport) (n : ℕ) (rs : List DeletedRun) (r : DeletedRun) → 0 < n → AreAscending rs → Some r ≡ run_from (at t (n - 1)) rs → same_stamp r.edit t ≡ false → None ≡ find (is_below t n) rs
found_other t n rs r l a e s = sym (ap (λ (b : Bool). cond {A = Option DeletedRun} b (Some r) None) s) ∙ found_run t n rs (Some r) l a e

pub found_none : (t : Lamport) (n : ℕ) (rs : List DeletedRun) → 0 < n → AreAscending rs → None ≡ run_from (at t (n - 1)) rs → None ≡ find (is_below t n) rs
found_none t n rs l a e = found_run t n rs None l a e

-- ---- the runs of an edit, one by one

-- what was gathered, with the runs below a number, are those of the edit
abbrev pub IsGathered : Lamport → List DeletedRun → List DeletedRun → ℕ → Type 0
IsGathered t rs got n = got ++ filter (is_below t n) rs ≡ filter (is_run_of t) rs

pub gather_one : (t : Lamport) (rs got : List DeletedRun) (n : ℕ) (r : DeletedRun) → AreAscending rs → Some r ≡ find (is_below t n) rs → IsGathered t rs got n → IsGathered t rs (got ++ r ∷ []) r.number × (r.number < n)
gather_one t rs got n r a e g =
    let h = one_further t n rs r a (sym e) in
    let k = and_parts (same_stamp r.edit t) (nat_lt r.number n) (found_is (is_below t n) rs r (sym e)) in
    (append_assoc got (r ∷ []) (filter (is_below t r.number) rs) ∙ ap (λ (ys : List DeletedRun). got ++ ys) (sym h) ∙ g, ltb-true _ _ k.1)

pub gather_all : (t : Lamport) (rs got : List DeletedRun) (n : ℕ) → filter (is_below t n) rs ≡ [] → IsGathered t rs got n → got ≡ filter (is_run_of t) rs
gather_all t rs got n e g = sym (append-nil got) ∙ ap (λ (ys : List DeletedRun). got ++ ys) (sym e) ∙ g
