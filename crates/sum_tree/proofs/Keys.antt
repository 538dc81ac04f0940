-- Places in lists in ascending order of keys.
use Rattle.std.proofs.Common.{◌≡◌, ℕ, ◌+◌, ◌-◌, ◌<◌, ◌≤◌, List, [], ◌∷◌, ◌++◌, length, get_or, take, drop, Option, Some, None, Ok, Err, Bool, true, false, true≢false, sym, ap, subst, refl, ◌∙◌, append_assoc, arith, length-append, take-append-drop}
use Rattle.std.specs.List.{All, AllPairs, filter, find}
use Rattle.std.specs.Cmp.{IsTotalOrder}
use Rattle.std.specs.Option.{option_or}
use Rattle.std.specs.Ordering.{is_lt, is_eq, is_gt, ordering_reverse}
use Rattle.std.specs.declared.cmp.Ordering.{Ordering}
use Rattle.std.specs.declared.cmp.Ordering.TheVariants.{Less, Equal, Greater}
use Rattle.std.proofs.lemmas.List.{append-nil, get_or_append_left, get_or-append-add, get_or_default, length-take-le, drop_more, take_more, take_all, drop_all, take-append-le, drop-append-le}
use Rattle.std.proofs.Math.Seq.{take-append-add, drop-append-add, get_or-append_seam}
use Rattle.std.proofs.lemmas.List.Elements.{All-append, All-cons, All-nil, All-head, All-tail, filter-append, filter_passes}
use Rattle.std.proofs.lemmas.List.Folds.{find-append}
use Rattle.std.proofs.lemmas.List.Kept.{AllPairs-filter, AllPairs-cons}
use Rattle.sum_tree.specs.Seen.{Seen}
use Rattle.sum_tree.specs.Shape.{join_items}
use Rattle.sum_tree.proofs.Children.{joined-split, joined-take_more}
use Rattle.sum_tree.specs.Keyed.{Ascending, below, above, item_of_key, insert_item, remove_key, IsPlace}

module _ {X : Type 0} where
  -- what is put after the last element follows the whole list
  pub put_behind : (i : ℕ) (xs ys : List X) → length xs ≤ i → (take i xs ++ ys) ++ drop i xs ≡ xs ++ ys
  put_behind i xs ys l =
      ap (λ (us : List X). (us ++ ys) ++ drop i xs) (take_all i xs l) ∙ ap (λ (us : List X). (xs ++ ys) ++ us) (drop_all i xs l) ∙ append-nil (xs ++ ys)

  pub filter_yes : (p : X → Bool) (xs : List X) → All (λ x. p x ≡ true) xs → filter p xs ≡ xs
  filter_yes p [] a = refl
  filter_yes p (x ∷ xs) a = rw (All-head (λ y. p y ≡ true) x xs a) (ap (λ (ys : List X). x ∷ ys) (filter_yes p xs (All-tail (λ y. p y ≡ true) x xs a)))

  pub filter_no : (p : X → Bool) (xs : List X) → All (λ x. p x ≡ false) xs → filter p xs ≡ []
  filter_no p [] a = refl
  filter_no p (x ∷ xs) a = rw (All-head (λ y. p y ≡ false) x xs a) (filter_no p xs (All-tail (λ y. p y ≡ false) x xs a))

  pub find_no : (p : X → Bool) (xs : List X) → All (λ x. p x ≡ false) xs → find p xs ≡ None
  find_no p [] a = refl
  find_no p (x ∷ xs) a = rw (All-head (λ y. p y ≡ false) x xs a) (find_no p xs (All-tail (λ y. p y ≡ false) x xs a))

  pub AllPairs-left : (R : X → X → Type 0) (xs ys : List X) → AllPairs R (xs ++ ys) → AllPairs R xs
  AllPairs-left R xs ys a i j d lt within =
      let here : R (get_or (xs ++ ys) i d) (get_or (xs ++ ys) j d) = a i j d lt (omega (arith, within, length-append xs ys)) in
      rw (← get_or_append_left xs ys d i (omega (arith, lt, within)), ← get_or_append_left xs ys d j within) here

  pub AllPairs-right : (R : X → X → Type 0) (xs ys : List X) → AllPairs R (xs ++ ys) → AllPairs R ys
  AllPairs-right R xs ys a i j d lt within =
      let here : R (get_or (xs ++ ys) (length xs + i) d) (get_or (xs ++ ys) (length xs + j) d) = a (length xs + i) (length xs + j) d (omega (arith, lt)) (omega (arith, within, length-append xs ys)) in
      rw (← get_or-append-add xs ys i d, ← get_or-append-add xs ys j d) here

  pub AllPairs-cross : (R : X → X → Type 0) (xs ys : List X) (i : ℕ) (d : X) → AllPairs R (xs ++ ys) → i < length xs → All (R (get_or xs i d)) ys
  AllPairs-cross R xs ys i d a lt j e within =
      let here : R (get_or (xs ++ ys) i d) (get_or (xs ++ ys) (length xs + j) d) = a i (length xs + j) d (omega (arith, lt)) (omega (arith, within, length-append xs ys)) in
      let other : R (get_or (xs ++ ys) i d) (get_or ys j d) = subst (λ (y : X). R (get_or (xs ++ ys) i d) y) (get_or-append-add xs ys j d) here in
      let mine : R (get_or xs i d) (get_or ys j d) = subst (λ (y : X). R y (get_or ys j d)) (get_or_append_left xs ys d i lt) other in
      subst (λ (y : X). R (get_or xs i d) y) (get_or_default ys j d e within) mine

  pub AllPairs-append : (R : X → X → Type 0) (xs ys : List X) → AllPairs R xs → AllPairs R ys → All (λ x. All (R x) ys) xs → AllPairs R (xs ++ ys)
  AllPairs-append R [] ys a b c = b
  AllPairs-append R (x ∷ xs) ys a b c =
      let first : All (R x) xs = AllPairs-cross R (x ∷ []) xs 0 x a (omega arith) in
      AllPairs-cons R x (xs ++ ys) (All-append (R x) xs ys first (All-head (λ y. All (R y) ys) x xs c)) (AllPairs-append R xs ys (AllPairs-right R (x ∷ []) xs a) b (All-tail (λ y. All (R y) ys) x xs c))

-- the result of the first of two if the second has none
pub option_or_none : {X : Type 0} (q : Option X) → option_or q None ≡ q
option_or_none None = refl
option_or_none (Some x) = refl

-- what the tests of an order say
pub less_of : (r : Ordering) → is_lt r ≡ true → r ≡ Less
less_of Less e = refl
less_of Equal e = absurd (true≢false (sym e))
less_of Greater e = absurd (true≢false (sym e))

greater_of : (r : Ordering) → is_gt r ≡ true → r ≡ Greater
greater_of Less e = absurd (true≢false (sym e))
greater_of Equal e = absurd (true≢false (sym e))
greater_of Greater e = refl

-- the items ys of xs come after n items of lesser keys than k, and before items of greater keys
pub record IsAround {T K : Type 0} (cmp : K → K → Ordering) (key : T → K) (k : K) (xs : List T) (n : ℕ) (ys : List T) : Type 0 where
  pub front : List T
  pub back : List T
  pub whole : xs ≡ front ++ (ys ++ back)
  pub count : n ≡ length front
  pub before : All (λ x. cmp (key x) k ≡ Less) front
  pub behind : All (λ x. cmp (key x) k ≡ Greater) back

-- if the keys of items ascend, so do those after the first
pub ascending_rest : {T K : Type 0} (cmp : K → K → Ordering) (key : T → K) (x : T) (xs : List T) → Ascending cmp key (x ∷ xs) → Ascending cmp key xs
ascending_rest cmp key x xs a = AllPairs-right (λ y z. cmp (key y) (key z) ≡ Less) (x ∷ []) xs a

module _ {T K : Type 0} (cmp : K → K → Ordering) (key : T → K) (o : IsTotalOrder cmp) where
  -- what is not less than k comes only before greater ones
  pub passed : (k : K) (x y : T) (r : Ordering) → cmp (key x) k ≡ r → is_lt r ≡ false → cmp (key x) (key y) ≡ Less → cmp (key y) k ≡ Greater
  passed k x y Less e n l = absurd (true≢false n)
  passed k x y Equal e n l = o.antisymm (key y) k ∙ ap ordering_reverse (sym (o.congr (key x) k (key y) e) ∙ l)
  passed k x y Greater e n l =
      let back : cmp k (key x) ≡ Less = o.antisymm k (key x) ∙ ap ordering_reverse e in
      o.antisymm (key y) k ∙ ap ordering_reverse (o.trans k (key x) (key y) back l)

  -- what comes after an item whose key is not less than k
  pub greater_behind : (k : K) (front back : List T) (i : ℕ) (x : T) → Ascending cmp key (front ++ back) → i < length front → x ≡ get_or front i x → is_lt (cmp (key x) k) ≡ false → All (λ y. cmp (key y) k ≡ Greater) back
  greater_behind k front back i x a lt read n j d within =
      let after : cmp (key (get_or front i x)) (key (get_or back j d)) ≡ Less = AllPairs-cross (λ y z. cmp (key y) (key z) ≡ Less) front back i x a lt j d within in
      passed k x (get_or back j d) (cmp (key x) k) refl n (subst (λ (y : T). cmp (key y) (key (get_or back j d)) ≡ Less) (sym read) after)

  -- where the last key is less than k, all are
  pub less_until : (k : K) (xs : List T) (d : T) → Ascending cmp key xs → 1 ≤ length xs → is_lt (cmp (key (get_or xs (length xs - 1) d)) k) ≡ true → All (λ x. cmp (key x) k ≡ Less) xs
  less_until k xs d a l last =
      let n = length xs - 1 in
      let z = get_or xs n d in
      let less : cmp (key z) k ≡ Less = less_of (cmp (key z) k) last in
      let cut : take n xs ++ z ∷ [] ≡ xs = sym (take_more xs n d (omega arith)) ∙ take_all (n + 1) xs (omega arith) in
      let split : Ascending cmp key (take n xs ++ z ∷ []) = subst (λ (ys : List T). Ascending cmp key ys) (sym cut) a in
      let front : All (λ x. cmp (key x) k ≡ Less) (take n xs) = λ i e lt. o.trans (key (get_or (take n xs) i e)) (key z) k (AllPairs-cross (λ y w. cmp (key y) (key w) ≡ Less) (take n xs) (z ∷ []) i e split lt 0 e (omega arith)) less in
      subst (λ (ys : List T). All (λ x. cmp (key x) k ≡ Less) ys) cut (All-append (λ x. cmp (key x) k ≡ Less) (take n xs) (z ∷ []) front (All-cons (λ x. cmp (key x) k ≡ Less) z [] less (All-nil (λ x. cmp (key x) k ≡ Less))))

  head_of : (xs : List T) → 1 ≤ length xs → T
  head_of [] l = absurd (omega (arith, l))
  head_of (x ∷ xs) l = x

  -- the same, for a test of the last key
  pub all_less : (k : K) (xs : List T) (b : Bool) → Ascending cmp key xs → 1 ≤ length xs → ((d : T) → b ≡ is_lt (cmp (key (get_or xs (length xs - 1) d)) k)) → b ≡ true → All (λ x. cmp (key x) k ≡ Less) xs
  all_less k xs b a l last e = let d = head_of xs l in less_until k xs d a l (sym (last d) ∙ e)

  less_below : (k : K) (xs : List T) → All (λ x. cmp (key x) k ≡ Less) xs → below cmp key k xs ≡ xs
  less_below k xs a = filter_yes (λ x. is_lt (cmp (key x) k)) xs (λ i d l. ap is_lt (a i d l))

  less_above : (k : K) (xs : List T) → All (λ x. cmp (key x) k ≡ Less) xs → above cmp key k xs ≡ []
  less_above k xs a = filter_no (λ x. is_gt (cmp (key x) k)) xs (λ i d l. ap is_gt (a i d l))

  less_held : (k : K) (xs : List T) → All (λ x. cmp (key x) k ≡ Less) xs → item_of_key cmp key k xs ≡ None
  less_held k xs a = find_no (λ x. is_eq (cmp (key x) k)) xs (λ i d l. ap is_eq (a i d l))

  greater_below : (k : K) (xs : List T) → All (λ x. cmp (key x) k ≡ Greater) xs → below cmp key k xs ≡ []
  greater_below k xs a = filter_no (λ x. is_lt (cmp (key x) k)) xs (λ i d l. ap is_lt (a i d l))

  greater_above : (k : K) (xs : List T) → All (λ x. cmp (key x) k ≡ Greater) xs → above cmp key k xs ≡ xs
  greater_above k xs a = filter_yes (λ x. is_gt (cmp (key x) k)) xs (λ i d l. ap is_gt (a i d l))

  greater_held : (k : K) (xs : List T) → All (λ x. cmp (key x) k ≡ Greater) xs → item_of_key cmp key k xs ≡ None
  greater_held k xs a = find_no (λ x. is_eq (cmp (key x) k)) xs (λ i d l. ap is_eq (a i d l))

  around_below : (k : K) (xs : List T) (n : ℕ) (ys : List T) (w : IsAround cmp key k xs n ys) → below cmp key k xs ≡ w.front ++ below cmp key k ys
  around_below k xs n ys w =
      let p = λ (x : T). is_lt (cmp (key x) k) in
      ap (filter p) w.whole ∙ filter-append p w.front (ys ++ w.back) ∙ ap (λ (zs : List T). zs ++ filter p (ys ++ w.back)) (less_below k w.front w.before) ∙ ap (λ (zs : List T). w.front ++ zs) (filter-append p ys w.back ∙ ap (λ (zs : List T). filter p ys ++ zs) (greater_below k w.back w.behind) ∙ append-nil (filter p ys))

  around_above : (k : K) (xs : List T) (n : ℕ) (ys : List T) (w : IsAround cmp key k xs n ys) → above cmp key k xs ≡ above cmp key k ys ++ w.back
  around_above k xs n ys w =
      let p = λ (x : T). is_gt (cmp (key x) k) in
      ap (filter p) w.whole ∙ filter-append p w.front (ys ++ w.back) ∙ ap (λ (zs : List T). zs ++ filter p (ys ++ w.back)) (less_above k w.front w.before) ∙ filter-append p ys w.back ∙ ap (λ (zs : List T). filter p ys ++ zs) (greater_above k w.back w.behind)

  around_held : (k : K) (xs : List T) (n : ℕ) (ys : List T) (w : IsAround cmp key k xs n ys) → item_of_key cmp key k xs ≡ item_of_key cmp key k ys
  around_held k xs n ys w =
      let p = λ (x : T). is_eq (cmp (key x) k) in
      ap (find p) w.whole ∙ find-append p w.front (ys ++ w.back) ∙ ap (λ (q : Option T). option_or q (find p (ys ++ w.back))) (less_held k w.front w.before) ∙ find-append p ys w.back ∙ ap (λ (q : Option T). option_or (find p ys) q) (greater_held k w.back w.behind) ∙ option_or_none (find p ys)

  around_take : (k : K) (xs : List T) (n i : ℕ) (ys : List T) (w : IsAround cmp key k xs n ys) → i ≤ length ys → take (n + i) xs ≡ w.front ++ take i ys
  around_take k xs n i ys w l = ap (take (n + i)) w.whole ∙ ap (λ (m : ℕ). take (m + i) (w.front ++ (ys ++ w.back))) w.count ∙ take-append-add w.front (ys ++ w.back) i ∙ ap (λ (zs : List T). w.front ++ zs) (take-append-le i ys w.back l)

  around_drop : (k : K) (xs : List T) (n i : ℕ) (ys : List T) (w : IsAround cmp key k xs n ys) → i ≤ length ys → drop (n + i) xs ≡ drop i ys ++ w.back
  around_drop k xs n i ys w l = ap (drop (n + i)) w.whole ∙ ap (λ (m : ℕ). drop (m + i) (w.front ++ (ys ++ w.back))) w.count ∙ drop-append-add w.front (ys ++ w.back) i ∙ drop-append-le i ys w.back l

  pub around_length : (k : K) (xs : List T) (n : ℕ) (ys : List T) → IsAround cmp key k xs n ys → n + length ys ≤ length xs
  around_length k xs n ys w = omega (arith, ap length w.whole, w.count, length-append w.front (ys ++ w.back), length-append ys w.back)

  pub place_ok : (k : K) (xs : List T) (n i : ℕ) (ys : List T) → IsAround cmp key k xs n ys → IsPlace cmp key k ys (Ok i) → IsPlace cmp key k xs (Ok (n + i))
  place_ok k xs n i ys w p =
      let more : n + (i + 1) ≡ n + i + 1 = omega arith in (
        omega (arith, p.0, around_length k xs n ys w),
        around_take k xs n i ys w (omega (arith, p.0)) ∙ ap (λ (zs : List T). w.front ++ zs) p.1 ∙ sym (around_below k xs n ys w),
        ap (λ (m : ℕ). drop m xs) (sym more) ∙ around_drop k xs n (i + 1) ys w (omega (arith, p.0)) ∙ ap (λ (zs : List T). zs ++ w.back) p.2 ∙ sym (around_above k xs n ys w),
        λ d. around_held k xs n ys w ∙ p.3 d ∙ ap Some (sym (ap (λ (zs : List T). get_or zs (n + i) d) w.whole ∙ ap (λ (m : ℕ). get_or (w.front ++ (ys ++ w.back)) (m + i) d) w.count ∙ get_or-append-add w.front (ys ++ w.back) i d ∙ get_or_append_left ys w.back d i p.0)),
      )

  pub place_err : (k : K) (xs : List T) (n i : ℕ) (ys : List T) → IsAround cmp key k xs n ys → IsPlace cmp key k ys (Err i) → IsPlace cmp key k xs (Err (n + i))
  place_err k xs n i ys w p = (
    omega (arith, p.0, around_length k xs n ys w),
    around_take k xs n i ys w p.0 ∙ ap (λ (zs : List T). w.front ++ zs) p.1 ∙ sym (around_below k xs n ys w),
    around_drop k xs n i ys w p.0 ∙ ap (λ (zs : List T). zs ++ w.back) p.2 ∙ sym (around_above k xs n ys w),
    around_held k xs n ys w ∙ p.3,
  )

  -- the item at i is that of key k
  pub place_item : (k : K) (xs : List T) (i : ℕ) (x : T) → Ascending cmp key xs → i < length xs → x ≡ get_or xs i x → cmp (key x) k ≡ Equal → All (λ y. cmp (key y) k ≡ Less) (take i xs) → IsPlace cmp key k xs (Ok i)
  place_item k xs i x a lt read e less =
      let more : take (i + 1) xs ≡ take i xs ++ x ∷ [] = take_more xs i x lt ∙ ap (λ (y : T). take i xs ++ y ∷ []) (sym read) in
      let size : length (take i xs) ≡ i = length-take-le i xs (omega (arith, lt)) in
      let there : x ≡ get_or (take (i + 1) xs) i x = sym (ap (λ (ys : List T). get_or ys i x) more ∙ ap (λ (m : ℕ). get_or (take i xs ++ x ∷ []) m x) (sym size) ∙ get_or-append_seam (take i xs) x [] x) in
      let back = greater_behind k (take (i + 1) xs) (drop (i + 1) xs) i x (subst (λ (ys : List T). Ascending cmp key ys) (sym (take-append-drop (i + 1) xs)) a) (omega (arith, ap length more, size, length-append (take i xs) (x ∷ []))) there (ap is_lt e) in
      let w : IsAround cmp key k xs i (x ∷ []) = record {
        front = take i xs;
        back = drop (i + 1) xs;
        whole = sym (take-append-drop (i + 1) xs) ∙ ap (λ (ys : List T). ys ++ drop (i + 1) xs) more ∙ append_assoc (take i xs) (x ∷ []) (drop (i + 1) xs);
        count = sym size;
        before = less;
        behind = back;
      } in
      let one : IsPlace cmp key k (x ∷ []) (Ok 0) = (omega arith, rw e refl, rw e refl, λ d. rw e refl) in
      let zero : i + 0 ≡ i = omega arith in
      subst (λ (m : ℕ). IsPlace cmp key k xs (Ok m)) zero (place_ok k xs i 0 (x ∷ []) w one)

  -- no item has key k, whose place is i
  pub place_gap : (k : K) (xs : List T) (i : ℕ) → i ≤ length xs → All (λ y. cmp (key y) k ≡ Less) (take i xs) → All (λ y. cmp (key y) k ≡ Greater) (drop i xs) → IsPlace cmp key k xs (Err i)
  place_gap k xs i l less greater =
      let w : IsAround cmp key k xs i [] = record {
        front = take i xs;
        back = drop i xs;
        whole = sym (take-append-drop i xs);
        count = sym (length-take-le i xs l);
        before = less;
        behind = greater;
      } in
      let none : IsPlace cmp key k [] (Err 0) = (omega arith, refl, refl, refl) in
      let zero : i + 0 ≡ i = omega arith in
      subst (λ (m : ℕ). IsPlace cmp key k xs (Err m)) zero (place_err k xs i 0 [] w none)

  -- no item has key k, whose place is after the last
  pub place_end : (k : K) (xs : List T) → All (λ y. cmp (key y) k ≡ Less) xs → IsPlace cmp key k xs (Err (length xs))
  place_end k xs less =
      place_gap k xs (length xs) (omega arith) (subst (λ (ys : List T). All (λ y. cmp (key y) k ≡ Less) ys) (sym (take_all (length xs) xs (omega arith))) less) (subst (λ (ys : List T). All (λ y. cmp (key y) k ≡ Greater) ys) (sym (drop_all (length xs) xs (omega arith))) (All-nil (λ y. cmp (key y) k ≡ Greater)))

  -- the item at i is the first whose key is greater
  pub place_before : (k : K) (xs : List T) (i : ℕ) (x : T) → Ascending cmp key xs → i < length xs → x ≡ get_or xs i x → cmp (key x) k ≡ Greater → All (λ y. cmp (key y) k ≡ Less) (take i xs) → IsPlace cmp key k xs (Err i)
  place_before k xs i x a lt read e less =
      let cut : drop i xs ≡ x ∷ drop (i + 1) xs = drop_more xs i x lt ∙ ap (λ (y : T). y ∷ drop (i + 1) xs) (sym read) in
      let back : All (λ y. cmp (key y) k ≡ Greater) (drop (i + 1) xs) = greater_behind k (x ∷ []) (drop (i + 1) xs) 0 x (subst (λ (ys : List T). Ascending cmp key ys) cut (AllPairs-right (λ y z. cmp (key y) (key z) ≡ Less) (take i xs) (drop i xs) (subst (λ (ys : List T). Ascending cmp key ys) (sym (take-append-drop i xs)) a))) (omega arith) refl (ap is_lt e) in
      place_gap k xs i (omega (arith, lt)) less (subst (λ (ys : List T). All (λ y. cmp (key y) k ≡ Greater) ys) (sym cut) (All-cons (λ y. cmp (key y) k ≡ Greater) x (drop (i + 1) xs) e back))

  less_front : (k : K) (xs : List T) → All (λ x. cmp (key x) k ≡ Less) (below cmp key k xs)
  less_front k xs i d l = less_of (cmp (key (get_or (below cmp key k xs) i d)) k) (filter_passes (λ x. is_lt (cmp (key x) k)) xs i d l)

  greater_back : (k : K) (xs : List T) → All (λ x. cmp k (key x) ≡ Less) (above cmp key k xs)
  greater_back k xs i d l =
      let x = get_or (above cmp key k xs) i d in
      o.antisymm k (key x) ∙ ap ordering_reverse (greater_of (cmp (key x) k) (filter_passes (λ y. is_gt (cmp (key y) k)) xs i d l))

  abbrev R : T → T → Type 0
  R x y = cmp (key x) (key y) ≡ Less

  pub ascending_removed : (k : K) (xs : List T) → Ascending cmp key xs → Ascending cmp key (remove_key cmp key k xs)
  ascending_removed k xs a =
      AllPairs-append R (below cmp key k xs) (above cmp key k xs) (AllPairs-filter R (λ x. is_lt (cmp (key x) k)) xs a) (AllPairs-filter R (λ x. is_gt (cmp (key x) k)) xs a) (λ i d l j e m. o.trans (key (get_or (below cmp key k xs) i d)) k (key (get_or (above cmp key k xs) j e)) (less_front k xs i d l) (greater_back k xs j e m))

  pub ascending_inserted : (x : T) (xs : List T) → Ascending cmp key xs → Ascending cmp key (insert_item cmp key x xs)
  ascending_inserted x xs a =
      let k = key x in
      let back : Ascending cmp key (x ∷ above cmp key k xs) = AllPairs-cons R x (above cmp key k xs) (greater_back k xs) (AllPairs-filter R (λ y. is_gt (cmp (key y) k)) xs a) in
      AllPairs-append R (below cmp key k xs) (x ∷ above cmp key k xs) (AllPairs-filter R (λ y. is_lt (cmp (key y) k)) xs a) back (λ i d l. All-cons (R (get_or (below cmp key k xs) i d)) x (above cmp key k xs) (less_front k xs i d l) (λ j e m. o.trans (key (get_or (below cmp key k xs) i d)) k (key (get_or (above cmp key k xs) j e)) (less_front k xs i d l) (greater_back k xs j e m)))

  pub around_within : (k : K) (xs ys zs : List T) (n m : ℕ) → IsAround cmp key k xs n ys → IsAround cmp key k ys m zs → IsAround cmp key k xs (n + m) zs
  around_within k xs ys zs n m w v = record {
    front = w.front ++ v.front;
    back = v.back ++ w.back;
    whole = w.whole ∙ ap (λ (us : List T). w.front ++ (us ++ w.back)) v.whole ∙ ap (λ (us : List T). w.front ++ us) (append_assoc v.front (zs ++ v.back) w.back ∙ ap (λ (us : List T). v.front ++ us) (append_assoc zs v.back w.back)) ∙ sym (append_assoc w.front v.front (zs ++ (v.back ++ w.back)));
    count = omega (arith, w.count, v.count, length-append w.front v.front);
    before = All-append (λ x. cmp (key x) k ≡ Less) w.front v.front w.before v.before;
    behind = All-append (λ x. cmp (key x) k ≡ Greater) v.back w.back v.behind w.behind;
  }

  pub around_all : (k : K) (xs : List T) → IsAround cmp key k xs 0 xs
  around_all k xs = record {
    front = [];
    back = [];
    whole = sym (append-nil xs);
    count = refl;
    before = All-nil (λ x. cmp (key x) k ≡ Less);
    behind = All-nil (λ x. cmp (key x) k ≡ Greater);
  }

  pub around_ascending : (k : K) (xs : List T) (n : ℕ) (ys : List T) → IsAround cmp key k xs n ys → Ascending cmp key xs → Ascending cmp key ys
  around_ascending k xs n ys w a = AllPairs-left R ys w.back (AllPairs-right R w.front (ys ++ w.back) (subst (λ (us : List T). Ascending cmp key us) w.whole a))

  -- the child j, around which the keys are less and greater
  pub around_child : (k : K) (ts : List (Seen T)) (n j : ℕ) (t : Seen T) → j < length ts → t ≡ get_or ts j t → n ≡ length (join_items (take j ts)) → All (λ x. cmp (key x) k ≡ Less) (join_items (take j ts)) → All (λ x. cmp (key x) k ≡ Greater) (join_items (drop (j + 1) ts)) → IsAround cmp key k (join_items ts) n t.items
  around_child k ts n j t lt read count before behind = record {
    front = join_items (take j ts);
    back = join_items (drop (j + 1) ts);
    whole = sym (joined-split ts (j + 1)) ∙ ap (λ (xs : List T). xs ++ join_items (drop (j + 1) ts)) (joined-take_more ts j t lt read) ∙ append_assoc (join_items (take j ts)) t.items (join_items (drop (j + 1) ts));
    count = count;
    before = before;
    behind = behind;
  }

  pub child_behind : (k : K) (ts : List (Seen T)) (j : ℕ) (t : Seen T) (b : Bool) → Ascending cmp key (join_items ts) → j < length ts → t ≡ get_or ts j t → 1 ≤ length t.items → ((d : T) → b ≡ is_lt (cmp (key (get_or t.items (length t.items - 1) d)) k)) → b ≡ false → All (λ x. cmp (key x) k ≡ Greater) (join_items (drop (j + 1) ts))
  child_behind k ts j t b a lt read l last e =
      let d = head_of t.items l in
      let n = length t.items - 1 in
      let f = join_items (take j ts) in
      let x = get_or t.items n d in
      let front : join_items (take (j + 1) ts) ≡ f ++ t.items = joined-take_more ts j t lt read in
      let within : n < length t.items = omega arith in
      let there : x ≡ get_or (join_items (take (j + 1) ts)) (length f + n) x = sym (ap (λ (us : List T). get_or us (length f + n) x) front ∙ get_or-append-add f t.items n x ∙ get_or_default t.items n x d within) in
      greater_behind k (join_items (take (j + 1) ts)) (join_items (drop (j + 1) ts)) (length f + n) x (subst (λ (us : List T). Ascending cmp key us) (sym (joined-split ts (j + 1))) a) (omega (arith, ap length front, length-append f t.items)) there (sym (last d) ∙ e)

  -- the keys of each child ascend
  pub child_ascending : (ts : List (Seen T)) (j : ℕ) (t : Seen T) → Ascending cmp key (join_items ts) → j < length ts → t ≡ get_or ts j t → Ascending cmp key t.items
  child_ascending ts j t a lt read =
      let f = join_items (take j ts) in
      let front : join_items (take (j + 1) ts) ≡ f ++ t.items = joined-take_more ts j t lt read in
      let two : Ascending cmp key ((f ++ t.items) ++ join_items (drop (j + 1) ts)) = subst (λ (us : List T). Ascending cmp key us) (sym (joined-split ts (j + 1)) ∙ ap (λ (us : List T). us ++ join_items (drop (j + 1) ts)) front) a in
      AllPairs-right R f t.items (AllPairs-left R (f ++ t.items) (join_items (drop (j + 1) ts)) two)

  pub child_before : (k : K) (ts : List (Seen T)) (j : ℕ) (t : Seen T) (b : Bool) → Ascending cmp key (join_items ts) → j < length ts → t ≡ get_or ts j t → 1 ≤ length t.items → ((d : T) → b ≡ is_lt (cmp (key (get_or t.items (length t.items - 1) d)) k)) → b ≡ true → All (λ x. cmp (key x) k ≡ Less) (join_items (take j ts)) → All (λ x. cmp (key x) k ≡ Less) (join_items (take (j + 1) ts))
  child_before k ts j t b a lt read l last e less =
      let f = join_items (take j ts) in
      let front : join_items (take (j + 1) ts) ≡ f ++ t.items = joined-take_more ts j t lt read in
      subst (λ (us : List T). All (λ x. cmp (key x) k ≡ Less) us) (sym front) (All-append (λ x. cmp (key x) k ≡ Less) f t.items less (all_less k t.items b (child_ascending ts j t a lt read) l last e))

  pub put_inserted : (k : K) (xs ys : List T) (x : T) (i : ℕ) → IsPlace cmp key k xs (Ok i) → k ≡ key x → ys ≡ (take i xs ++ x ∷ []) ++ drop (i + 1) xs → ys ≡ insert_item cmp key x xs
  put_inserted k xs ys x i p e made = made ∙ append_assoc (take i xs) (x ∷ []) (drop (i + 1) xs) ∙ ap (λ (us : List T). us ++ x ∷ drop (i + 1) xs) p.1 ∙ ap (λ (us : List T). below cmp key k xs ++ x ∷ us) p.2 ∙ ap (λ (q : K). below cmp key q xs ++ x ∷ above cmp key q xs) e

  pub put_between : (k : K) (xs ys : List T) (x : T) (i : ℕ) → IsPlace cmp key k xs (Err i) → k ≡ key x → ys ≡ (take i xs ++ x ∷ []) ++ drop i xs → ys ≡ insert_item cmp key x xs
  put_between k xs ys x i p e made = made ∙ append_assoc (take i xs) (x ∷ []) (drop i xs) ∙ ap (λ (us : List T). us ++ x ∷ drop i xs) p.1 ∙ ap (λ (us : List T). below cmp key k xs ++ x ∷ us) p.2 ∙ ap (λ (q : K). below cmp key q xs ++ x ∷ above cmp key q xs) e

  pub put_removed : (k : K) (xs ys none : List T) (i : ℕ) → IsPlace cmp key k xs (Ok i) → none ≡ [] → ys ≡ (take i xs ++ none) ++ drop (i + 1) xs → ys ≡ remove_key cmp key k xs
  put_removed k xs ys none i p e made = made ∙ ap (λ (us : List T). (take i xs ++ us) ++ drop (i + 1) xs) e ∙ ap (λ (us : List T). us ++ drop (i + 1) xs) (append-nil (take i xs) ∙ p.1) ∙ ap (λ (us : List T). below cmp key k xs ++ us) p.2

  parts_more : (k : K) (x : T) (xs : List T) (r : Ordering) → cmp (key x) k ≡ r → length (below cmp key k xs) + length (above cmp key k xs) ≤ length xs → length (below cmp key k (x ∷ xs)) + length (above cmp key k (x ∷ xs)) ≤ length (x ∷ xs)
  parts_more k x xs Less e h = rw e (omega (arith, h))
  parts_more k x xs Equal e h = rw e (omega (arith, h))
  parts_more k x xs Greater e h = rw e (omega (arith, h))

  pub parts_short : (k : K) (xs : List T) → length (below cmp key k xs) + length (above cmp key k xs) ≤ length xs
  parts_short k [] = omega arith
  parts_short k (x ∷ xs) = parts_more k x xs (cmp (key x) k) refl (parts_short k xs)

  -- an insertion adds one item at most
  pub inserted_short : (x : T) (xs : List T) → length (insert_item cmp key x xs) ≤ length xs + 1
  inserted_short x xs = omega (arith, parts_short (key x) xs, length-append (below cmp key (key x) xs) (x ∷ above cmp key (key x) xs))
