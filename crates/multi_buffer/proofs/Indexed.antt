-- The members of excerpts: put, found by filters, and followed.
use Rattle.std.proofs.Common.{◌≡◌, inl, inr, ℕ, zero, suc, ◌+◌, ◌<◌, ◌≤◌, ◌^◌, Bool, true, false, eqb, leb, ltb, List, [], ◌∷◌, ◌++◌, length, map, take, drop, Some, None, Result, Ok, Err, OnOk, refl, sym, ap, ◌∙◌, subst, arith, append_assoc, length-append}
use Rattle.std.specs.Prelude.{slice_get, ◌&&◌}
use Rattle.std.specs.List.{filter, AllByRecursion}
use Rattle.std.proofs.Math.Seq.{take-append_seam, drop-append_seam}
use Rattle.std.proofs.lemmas.Bool.{cases_Bool, eqb-true, eq-eqb, le-leb, leb-true}
use Rattle.std.proofs.lemmas.Bool.Decides.{nat_tests}
use Rattle.std.proofs.lemmas.List.{map-append, length-map}
use Rattle.std.proofs.lemmas.List.Elements.{filter-append}
use Rattle.std.proofs.lemmas.Option.{same_Some}
use Rattle.sum_tree.specs.Spliced.{splice_list}
use Rattle.tree_cursor.specs.Places.{filter_count}
use Rattle.multi_buffer.specs.declared.excerpt.Excerpt.{Excerpt}
use Rattle.multi_buffer.specs.declared.members.Member.{Member}
use Rattle.multi_buffer.specs.declared.parts.Part.{Part}
use Rattle.multi_buffer.specs.declared.reach.Reach.{Reach}
use Rattle.multi_buffer.specs.Found.{AreShort, IsShort}
use Rattle.multi_buffer.specs.Members.{member, is_of, members_from, BuffersAscend, AreMembers, AreExcerpts, put_member, holds_buffer, holds_meeting, place_after, is_meeting, first_other, reach_of}
use Rattle.multi_buffer.specs.MemberLaws.{and_true, both_true}
use Rattle.multi_buffer.specs.Splits.{meets, sharing}
use Rattle.multi_buffer.proofs.Sums.{AreShort-none, AreShort-push}

pub on_ok : {T E P Q : Type 0} (r : Result T E) → OnOk r P → (P → Q) → OnOk r Q
on_ok (Ok x) p f = f p
on_ok (Err e) p f = tt

-- ---- lists

pub splice_here : {A : Type 0} (front : List A) (x y : A) (rest : List A) (n : ℕ) → n ≡ length front → splice_list n (n + 1) (y ∷ []) (front ++ x ∷ rest) ≡ front ++ y ∷ rest
splice_here {A} front x y rest n e =
    let one : front ++ x ∷ rest ≡ (front ++ x ∷ []) ++ rest = sym (append_assoc front (x ∷ []) rest) in
    let long : n + 1 ≡ length (front ++ x ∷ []) = (let l = length-append front (x ∷ []) in omega arith) in
    let before : take n (front ++ x ∷ rest) ≡ front = ap (λ (k : ℕ). take k (front ++ x ∷ rest)) e ∙ take-append_seam front (x ∷ rest) in
    let behind : drop (n + 1) (front ++ x ∷ rest) ≡ rest = ap (λ (k : ℕ). drop k (front ++ x ∷ rest)) long ∙ ap (drop (length (front ++ x ∷ []))) one ∙ drop-append_seam (front ++ x ∷ []) rest in
    ap (λ (zs : List A). (zs ++ y ∷ []) ++ drop (n + 1) (front ++ x ∷ rest)) before
    ∙ ap (λ (zs : List A). (front ++ y ∷ []) ++ zs) behind
    ∙ append_assoc front (y ∷ []) rest

pub get_seam : {A : Type 0} (front : List A) (x : A) (rest : List A) → slice_get (front ++ x ∷ rest) (length front) ≡ Some x
get_seam [] x rest = refl
get_seam (y ∷ front) x rest = get_seam front x rest

get_past_front : {A : Type 0} (front rest : List A) (k : ℕ) → slice_get (front ++ rest) (length front + k) ≡ slice_get rest k
get_past_front [] rest k = let z : 0 + k ≡ k = omega arith in ap (slice_get rest) z
get_past_front (y ∷ front) rest k = let z : suc (length front) + k ≡ suc (length front + k) = omega arith in ap (slice_get (y ∷ front ++ rest)) z ∙ get_past_front front rest k

-- ---- what a filter goes over

module _ {A S : Type 0} (keeps : S → Bool) (sum_of : A → S) (t : A → Bool) (same : (x : A) → keeps (sum_of x) ≡ t x) where
  abbrev pub IsPassed : A → Type 0
  IsPassed y = t y ≡ false

  -- those before the next that is kept are not
  pub record IsNext (rest : List A) (n : ℕ) (x : A) : Type 0 where
    pub over : List A
    pub ahead : List A
    pub parts : rest ≡ over ++ x ∷ ahead
    pub count : n ≡ length over
    pub passed : AllByRecursion IsPassed over
    pub kept : t x ≡ true

  pub next_is : (rest : List A) (x : A) → slice_get rest (filter_count keeps sum_of rest) ≡ Some x → IsNext rest (filter_count keeps sum_of rest) x
  next_is [] x e = cc
  next_is (y ∷ rest) x e = elim (cases_Bool (keeps (sum_of y))) [
    | inl k ↦ (let f : Some y ≡ Some x = rw k at e in let g : y ≡ x = same_Some y x f in rw k (record {
      over = [];
      ahead = rest;
      parts = ap (λ (z : A). z ∷ rest) g;
      count = refl;
      passed = tt;
      kept = ap t (sym g) ∙ sym (same y) ∙ k;
    }))
    | inr k ↦ (
        let z : 1 + filter_count keeps sum_of rest ≡ suc (filter_count keeps sum_of rest) = omega arith in
        let f : slice_get (y ∷ rest) (1 + filter_count keeps sum_of rest) ≡ Some x = rw k at e in
        let i = next_is rest x (sym (ap (slice_get (y ∷ rest)) z) ∙ f) in
        rw k (record {
          over = y ∷ i.over;
          ahead = i.ahead;
          parts = ap (λ (zs : List A). y ∷ zs) i.parts;
          count = (let c = i.count in omega arith);
          passed = (sym (same y) ∙ k, i.passed);
          kept = i.kept;
        }))
  ]

  pub none_left : (rest : List A) → slice_get rest (filter_count keeps sum_of rest) ≡ None → filter t rest ≡ []
  none_left [] e = refl
  none_left (y ∷ rest) e = elim (cases_Bool (keeps (sum_of y))) [
    | inl k ↦ (let f : Some y ≡ None = rw k at e in cc)
    | inr k ↦ (
        let z : 1 + filter_count keeps sum_of rest ≡ suc (filter_count keeps sum_of rest) = omega arith in
        let f : slice_get (y ∷ rest) (1 + filter_count keeps sum_of rest) ≡ None = rw k at e in
        let u : t y ≡ false = sym (same y) ∙ k in
        rw u (none_left rest (sym (ap (slice_get (y ∷ rest)) z) ∙ f)))
  ]

  pub filter_passed : (over : List A) → AllByRecursion IsPassed over → filter t over ≡ []
  filter_passed [] p = refl
  filter_passed (y ∷ over) p = let u = p.0 in rw u (filter_passed over p.1)

  pub filter_next : (rest : List A) (n : ℕ) (x : A) (i : IsNext rest n x) → filter t rest ≡ x ∷ filter t i.ahead
  filter_next rest n x i =
      let k = i.kept in
      let here : filter t (x ∷ i.ahead) ≡ x ∷ filter t i.ahead = rw k refl in
      ap (filter t) i.parts ∙ filter-append t i.over (x ∷ i.ahead) ∙ ap (λ (zs : List A). zs ++ filter t (x ∷ i.ahead)) (filter_passed i.over i.passed) ∙ here

same_tests : (a b : Bool) → (a ≡ true → b ≡ true) → (b ≡ true → a ≡ true) → a ≡ b
same_tests true b f g = sym (f refl)
same_tests false true f g = let h = g refl in cc
same_tests false false f g = refl

pub holds_own : (b : ℕ) (m : Member) → holds_buffer b (reach_of m).bounds ≡ is_of b m
holds_own b m = same_tests (leb m.excerpt.buffer b && leb b m.excerpt.buffer) (eqb m.excerpt.buffer b) forth back
  where
    forth : (leb m.excerpt.buffer b && leb b m.excerpt.buffer) ≡ true → eqb m.excerpt.buffer b ≡ true
    forth e =
        let k = and_true (leb m.excerpt.buffer b) (leb b m.excerpt.buffer) e in
        let l = leb-true m.excerpt.buffer b k.0 in
        let g = leb-true b m.excerpt.buffer k.1 in
        eq-eqb m.excerpt.buffer b (omega arith)

    back : eqb m.excerpt.buffer b ≡ true → (leb m.excerpt.buffer b && leb b m.excerpt.buffer) ≡ true
    back e =
        let q : m.excerpt.buffer ≡ b = eqb-true m.excerpt.buffer b e in
        both_true (leb m.excerpt.buffer b) (leb b m.excerpt.buffer) (le-leb m.excerpt.buffer b (omega arith)) (le-leb b m.excerpt.buffer (omega arith))

pub holds_met : (q : Part) (m : Member) → holds_meeting q (reach_of m).bounds ≡ is_meeting q m
holds_met q m = ap (λ (t : Bool). t && (leb m.excerpt.start q.end && leb q.start m.excerpt.end)) (holds_own q.buffer m)

-- ---- a member that is put

put_here : (m : Member) (ms : List Member) → splice_list (place_after m.excerpt.buffer ms) (place_after m.excerpt.buffer ms) (m ∷ []) ms ≡ put_member m ms
put_here m [] = refl
put_here m (n ∷ ms) = elim (cases_Bool (ltb m.excerpt.buffer n.excerpt.buffer)) [
  | inl t ↦ rw t refl
  | inr t ↦ (
      let z : 1 + place_after m.excerpt.buffer ms ≡ suc (place_after m.excerpt.buffer ms) = omega arith in
      rw (t, z) (ap (λ (ns : List Member). n ∷ ns) (put_here m ms)))
]

pub put_spliced : (m : Member) (ms : List Member) (n : ℕ) → n ≡ place_after m.excerpt.buffer ms → splice_list n n (m ∷ []) ms ≡ put_member m ms
put_spliced m ms n e = ap (λ (k : ℕ). splice_list k k (m ∷ []) ms) e ∙ put_here m ms

pub place_within : (b : ℕ) (ms : List Member) → place_after b ms ≤ length ms
place_within b [] = omega arith
place_within b (m ∷ ms) = elim (cases_Bool (ltb b m.excerpt.buffer)) [
  | inl t ↦ rw t (omega arith)
  | inr t ↦ rw t (let l = place_within b ms in omega arith)
]

pub put_count : (m : Member) (ms : List Member) → length (put_member m ms) ≡ suc (length ms)
put_count m [] = refl
put_count m (n ∷ ms) = elim (cases_Bool (ltb m.excerpt.buffer n.excerpt.buffer)) [
  | inl t ↦ rw t refl
  | inr t ↦ rw t (ap suc (put_count m ms))
]

put_ascends : (k : ℕ) (m : Member) (ms : List Member) → k ≤ m.excerpt.buffer → BuffersAscend k ms → BuffersAscend k (put_member m ms)
put_ascends k m [] l a = (l, tt)
put_ascends k m (n ∷ ms) l a = elim (cases_Bool (ltb m.excerpt.buffer n.excerpt.buffer)) [
  | inl t ↦ (let u : m.excerpt.buffer ≤ n.excerpt.buffer = grind (arith, nat_tests, t) in rw t (l, (u, a.1)))
  | inr t ↦ (let u : n.excerpt.buffer ≤ m.excerpt.buffer = grind (arith, nat_tests, t) in rw t (a.0, put_ascends n.excerpt.buffer m ms u a.1))
]

none_of : (b k : ℕ) (ms : List Member) → b < k → BuffersAscend k ms → filter (is_of b) ms ≡ []
none_of b k [] l a = refl
none_of b k (m ∷ ms) l a =
    let g = a.0 in
    let t : eqb m.excerpt.buffer b ≡ false = grind (arith, nat_tests, g, l) in
    rw t (none_of b m.excerpt.buffer ms (omega arith) a.1)

put_own : (b k : ℕ) (m : Member) (ms : List Member) → eqb m.excerpt.buffer b ≡ true → BuffersAscend k ms → filter (is_of b) (put_member m ms) ≡ filter (is_of b) ms ++ m ∷ []
put_own b k m [] e a = rw e refl
put_own b k m (n ∷ ms) e a = elim (cases_Bool (ltb m.excerpt.buffer n.excerpt.buffer)) [
  | inl t ↦ (
      let q : m.excerpt.buffer ≡ b = eqb-true m.excerpt.buffer b e in
      let l : b < n.excerpt.buffer = grind (arith, nat_tests, t, q) in
      let none : filter (is_of b) (n ∷ ms) ≡ [] = none_of b n.excerpt.buffer (n ∷ ms) l (omega arith, a.1) in
      rw (t, e) (ap (λ (ns : List Member). m ∷ ns) none ∙ sym (ap (λ (ns : List Member). ns ++ m ∷ []) none)))
  | inr t ↦ elim (cases_Bool (eqb n.excerpt.buffer b)) [
    | inl u ↦ rw (t, u) (ap (λ (ns : List Member). n ∷ ns) (put_own b n.excerpt.buffer m ms e a.1))
    | inr u ↦ rw (t, u) (put_own b n.excerpt.buffer m ms e a.1)
  ]
]

put_other : (b : ℕ) (m : Member) (ms : List Member) → eqb m.excerpt.buffer b ≡ false → filter (is_of b) (put_member m ms) ≡ filter (is_of b) ms
put_other b m [] e = rw e refl
put_other b m (n ∷ ms) e = elim (cases_Bool (ltb m.excerpt.buffer n.excerpt.buffer)) [
  | inl t ↦ rw (t, e) refl
  | inr t ↦ elim (cases_Bool (eqb n.excerpt.buffer b)) [
    | inl u ↦ rw (t, u) (ap (λ (ns : List Member). n ∷ ns) (put_other b m ms e))
    | inr u ↦ rw (t, u) (put_other b m ms e)
  ]
]

more_own : (b i : ℕ) (xs : List Excerpt) (x : Excerpt) → eqb x.buffer b ≡ true → members_from b i (xs ++ x ∷ []) ≡ members_from b i xs ++ member (i + length xs) x ∷ []
more_own b i [] x e = let z : i ≡ i + 0 = omega arith in rw e (ap (λ (n : ℕ). member n x ∷ []) z)
more_own b i (y ∷ xs) x e =
    let z : suc i + length xs ≡ i + suc (length xs) = omega arith in
    let r = more_own b (suc i) xs x e ∙ ap (λ (n : ℕ). members_from b (suc i) xs ++ member n x ∷ []) z in
    elim (cases_Bool (eqb y.buffer b)) [
      | inl t ↦ rw t (ap (λ (ns : List Member). member i y ∷ ns) r)
      | inr t ↦ rw t r
    ]

more_other : (b i : ℕ) (xs : List Excerpt) (x : Excerpt) → eqb x.buffer b ≡ false → members_from b i (xs ++ x ∷ []) ≡ members_from b i xs
more_other b i [] x e = rw e refl
more_other b i (y ∷ xs) x e = elim (cases_Bool (eqb y.buffer b)) [
  | inl t ↦ rw t (ap (λ (ns : List Member). member i y ∷ ns) (more_other b (suc i) xs x e))
  | inr t ↦ rw t (more_other b (suc i) xs x e)
]

pub AreMembers-none : AreMembers [] []
AreMembers-none = record { order = tt; count = refl; each = λ b. refl }

-- an excerpt is put after the others
pub AreMembers-put : (xs : List Excerpt) (ms : List Member) (x : Excerpt) → AreMembers xs ms → AreMembers (xs ++ x ∷ []) (put_member (member (length xs) x) ms)
AreMembers-put xs ms x a = record {
  order = put_ascends 0 (member (length xs) x) ms (omega arith) a.order;
  count = (let c = put_count (member (length xs) x) ms in let l = length-append xs (x ∷ []) in let d = a.count in omega arith);
  each = λ b. elim (cases_Bool (eqb x.buffer b)) [
    | inl t ↦ (
        let z : length xs ≡ 0 + length xs = omega arith in
        put_own b 0 (member (length xs) x) ms t a.order
        ∙ ap (λ (ns : List Member). ns ++ member (length xs) x ∷ []) (a.each b)
        ∙ ap (λ (n : ℕ). members_from b 0 xs ++ member n x ∷ []) z
        ∙ sym (more_own b 0 xs x t))
    | inr t ↦ put_other b (member (length xs) x) ms t ∙ a.each b ∙ sym (more_other b 0 xs x t)
  ];
}

-- ---- excerpts of which those of a buffer change

abbrev pub on_member : (Excerpt → Excerpt) → Member → Member
on_member f m = member m.index (f m.excerpt)

-- those before an index have changed, and those from it on are as they were
pub record AreHalf (b : ℕ) (f : Excerpt → Excerpt) (xs ys : List Excerpt) (ms ns : List Member) (n : ℕ) : Type 0 where
  pub front : List Member
  pub rest : List Member
  pub members : ms ≡ front ++ rest
  pub new_members : ns ≡ map (on_member f) front ++ rest
  pub next : n ≡ length front
  pub done : List Excerpt
  pub left : List Excerpt
  pub excerpts : xs ≡ done ++ left
  pub new_excerpts : ys ≡ map f done ++ left
  pub same : filter (is_of b) rest ≡ members_from b (length done) left

-- what is true at the next member of the buffer, which stands at place g
pub record IsStep (b : ℕ) (f : Excerpt → Excerpt) (xs ys : List Excerpt) (ms ns : List Member) (g : ℕ) (m : Member) : Type 0 where
  pub within : m.index < length ys
  pub place : g < length ns
  pub place_too : g < length ms
  pub there : slice_get xs m.index ≡ Some m.excerpt
  pub buffer : m.excerpt.buffer ≡ b
  pub put : AreHalf b f xs (splice_list m.index (m.index + 1) (f m.excerpt ∷ []) ys) ms (splice_list g (g + 1) (on_member f m ∷ []) ns) (g + 1)
  pub stay : f m.excerpt ≡ m.excerpt → AreHalf b f xs ys ms ns (g + 1)

module _ (b : ℕ) (f : Excerpt → Excerpt) (stays : (x : Excerpt) → eqb x.buffer b ≡ false → f x ≡ x) (keeps_buffer : (x : Excerpt) → (f x).buffer ≡ x.buffer) where
  map_ascends : (k : ℕ) (ms : List Member) → BuffersAscend k ms → BuffersAscend k (map (on_member f) ms)
  map_ascends k [] a = tt
  map_ascends k (m ∷ ms) a =
      let e : m.excerpt.buffer ≡ (f m.excerpt).buffer = sym (keeps_buffer m.excerpt) in
      let l = a.0 in
      (omega arith, subst (λ (n : ℕ). BuffersAscend n (map (on_member f) ms)) e (map_ascends m.excerpt.buffer ms a.1))

  map_filter : (c : ℕ) (ms : List Member) → filter (is_of c) (map (on_member f) ms) ≡ map (on_member f) (filter (is_of c) ms)
  map_filter c [] = refl
  map_filter c (m ∷ ms) =
      let e : eqb (f m.excerpt).buffer c ≡ eqb m.excerpt.buffer c = ap (λ (n : ℕ). eqb n c) (keeps_buffer m.excerpt) in
      elim (cases_Bool (eqb m.excerpt.buffer c)) [
        | inl t ↦ rw (e, t) (ap (λ (ns : List Member). on_member f m ∷ ns) (map_filter c ms))
        | inr t ↦ rw (e, t) (map_filter c ms)
      ]

  map_members : (c i : ℕ) (xs : List Excerpt) → members_from c i (map f xs) ≡ map (on_member f) (members_from c i xs)
  map_members c i [] = refl
  map_members c i (x ∷ xs) =
      let e : eqb (f x).buffer c ≡ eqb x.buffer c = ap (λ (n : ℕ). eqb n c) (keeps_buffer x) in
      elim (cases_Bool (eqb x.buffer c)) [
        | inl t ↦ rw (e, t) (ap (λ (ns : List Member). member i (f x) ∷ ns) (map_members c (suc i) xs))
        | inr t ↦ rw (e, t) (map_members c (suc i) xs)
      ]

  pub AreMembers-map : (xs : List Excerpt) (ms : List Member) → AreMembers xs ms → AreMembers (map f xs) (map (on_member f) ms)
  AreMembers-map xs ms a = record {
    order = map_ascends 0 ms a.order;
    count = length-map ms (on_member f) ∙ a.count ∙ sym (length-map xs f);
    each = λ c. map_filter c ms ∙ ap (map (on_member f)) (a.each c) ∙ sym (map_members c 0 xs);
  }

  pub half_begins : (xs : List Excerpt) (ms : List Member) → AreMembers xs ms → AreHalf b f xs xs ms ms 0
  half_begins xs ms a = record {
    front = [];
    rest = ms;
    members = refl;
    new_members = refl;
    next = refl;
    done = [];
    left = xs;
    excerpts = refl;
    new_excerpts = refl;
    same = a.each b;
  }

  abbrev Other : Excerpt → Type 0
  Other x = eqb x.buffer b ≡ false

  -- the first of the buffer among excerpts, of which the first is excerpt i
  record IsFirst (i : ℕ) (left : List Excerpt) (m : Member) (more : List Member) : Type 0 where
    over : List Excerpt
    ahead : List Excerpt
    parts : left ≡ over ++ m.excerpt ∷ ahead
    index : m.index ≡ i + length over
    passed : AllByRecursion Other over
    kept : eqb m.excerpt.buffer b ≡ true
    more_is : more ≡ members_from b (suc m.index) ahead

  first_is : (i : ℕ) (left : List Excerpt) (m : Member) (more : List Member) → m ∷ more ≡ members_from b i left → IsFirst i left m more
  first_is i [] m more e = cc
  first_is i (x ∷ left) m more e = elim (cases_Bool (eqb x.buffer b)) [
    | inl t ↦ (
        let g : m ∷ more ≡ member i x ∷ members_from b (suc i) left = rw t at e in
        let h : m ≡ member i x = cc in
        let q : more ≡ members_from b (suc i) left = cc in
        let j : m.index ≡ i = ap (λ (z : Member). z.index) h in
        let y : m.excerpt ≡ x = ap (λ (z : Member). z.excerpt) h in
        record {
          over = [];
          ahead = left;
          parts = ap (λ (z : Excerpt). z ∷ left) (sym y);
          index = omega arith;
          passed = tt;
          kept = ap (λ (z : Excerpt). eqb z.buffer b) y ∙ t;
          more_is = q ∙ ap (λ (k : ℕ). members_from b (suc k) left) (sym j);
        })
    | inr t ↦ (
        let k = first_is (suc i) left m more (rw t at e) in
        record {
          over = x ∷ k.over;
          ahead = k.ahead;
          parts = ap (λ (zs : List Excerpt). x ∷ zs) k.parts;
          index = (let z = k.index in omega arith);
          passed = (t, k.passed);
          kept = k.kept;
          more_is = k.more_is;
        })
  ]

  none_first : (i : ℕ) (left : List Excerpt) → members_from b i left ≡ [] → AllByRecursion Other left
  none_first i [] e = tt
  none_first i (x ∷ left) e = elim (cases_Bool (eqb x.buffer b)) [
    | inl t ↦ (let g : member i x ∷ members_from b (suc i) left ≡ [] = rw t at e in cc)
    | inr t ↦ (t, none_first (suc i) left (rw t at e))
  ]

  others_stay : (over : List Excerpt) → AllByRecursion Other over → map f over ≡ over
  others_stay [] p = refl
  others_stay (x ∷ over) p = ap (λ (z : Excerpt). z ∷ map f over) (stays x p.0) ∙ ap (λ (zs : List Excerpt). x ∷ zs) (others_stay over p.1)

  abbrev OtherMember : Member → Type 0
  OtherMember m = is_of b m ≡ false

  same_member : (m : Member) (x : Excerpt) → x ≡ m.excerpt → member m.index x ≡ m
  same_member m x e = rw e refl

  other_members_stay : (over : List Member) → AllByRecursion OtherMember over → map (on_member f) over ≡ over
  other_members_stay [] p = refl
  other_members_stay (m ∷ over) p = ap (λ (z : Member). z ∷ map (on_member f) over) (same_member m (f m.excerpt) (stays m.excerpt p.0)) ∙ ap (λ (zs : List Member). m ∷ zs) (other_members_stay over p.1)

  abbrev pub over_members : List Member → ℕ
  over_members ms = filter_count (λ (r : Reach). holds_buffer b r.bounds) reach_of ms

  abbrev IsNextMember : List Member → ℕ → Member → Type 0
  IsNextMember = IsNext (λ (r : Reach). holds_buffer b r.bounds) reach_of (is_of b) (holds_own b)

  module _ (xs ys : List Excerpt) (ms ns : List Member) (n : ℕ) (h : AreHalf b f xs ys ms ns n) where
    dropped : drop n ms ≡ h.rest
    dropped = ap (drop n) h.members ∙ ap (λ (k : ℕ). drop k (h.front ++ h.rest)) h.next ∙ drop-append_seam h.front h.rest

    got : (k : ℕ) → slice_get ms (n + k) ≡ slice_get h.rest k
    got k = ap (λ (zs : List Member). slice_get zs (n + k)) h.members ∙ ap (λ (z : ℕ). slice_get (h.front ++ h.rest) (z + k)) h.next ∙ get_past_front h.front h.rest k

    counted : over_members (drop n ms) ≡ over_members h.rest
    counted = ap over_members dropped

    module _ (g : ℕ) (e : g ≡ n + over_members (drop n ms)) where
      at_rest : slice_get ms g ≡ slice_get h.rest (over_members h.rest)
      at_rest = ap (slice_get ms) (e ∙ ap (λ (k : ℕ). n + k) counted) ∙ got (over_members h.rest)

      module _ (m : Member) (s : slice_get ms g ≡ Some m) where
        nx : IsNextMember h.rest (over_members h.rest) m
        nx = next_is (λ (r : Reach). holds_buffer b r.bounds) reach_of (is_of b) (holds_own b) h.rest m (sym at_rest ∙ s)

        fs : IsFirst (length h.done) h.left m (filter (is_of b) nx.ahead)
        fs = first_is (length h.done) h.left m (filter (is_of b) nx.ahead)
            (sym (filter_next (λ (r : Reach). holds_buffer b r.bounds) reach_of (is_of b) (holds_own b) h.rest (over_members h.rest) m nx) ∙ h.same)

        -- the members and the excerpts as they are now
        ns_is : ns ≡ map (on_member f) (h.front ++ nx.over) ++ m ∷ nx.ahead
        ns_is =
            h.new_members ∙ ap (λ (zs : List Member). map (on_member f) h.front ++ zs) nx.parts
            ∙ sym (append_assoc (map (on_member f) h.front) nx.over (m ∷ nx.ahead))
            ∙ ap (λ (zs : List Member). (map (on_member f) h.front ++ zs) ++ m ∷ nx.ahead) (sym (other_members_stay nx.over nx.passed))
            ∙ ap (λ (zs : List Member). zs ++ m ∷ nx.ahead) (sym (map-append (on_member f) h.front nx.over))

        ys_is : ys ≡ map f (h.done ++ fs.over) ++ m.excerpt ∷ fs.ahead
        ys_is =
            h.new_excerpts ∙ ap (λ (zs : List Excerpt). map f h.done ++ zs) fs.parts
            ∙ sym (append_assoc (map f h.done) fs.over (m.excerpt ∷ fs.ahead))
            ∙ ap (λ (zs : List Excerpt). (map f h.done ++ zs) ++ m.excerpt ∷ fs.ahead) (sym (others_stay fs.over fs.passed))
            ∙ ap (λ (zs : List Excerpt). zs ++ m.excerpt ∷ fs.ahead) (sym (map-append f h.done fs.over))

        ms_is : ms ≡ (h.front ++ nx.over) ++ m ∷ nx.ahead
        ms_is = h.members ∙ ap (λ (zs : List Member). h.front ++ zs) nx.parts ∙ sym (append_assoc h.front nx.over (m ∷ nx.ahead))

        xs_is : xs ≡ (h.done ++ fs.over) ++ m.excerpt ∷ fs.ahead
        xs_is = h.excerpts ∙ ap (λ (zs : List Excerpt). h.done ++ zs) fs.parts ∙ sym (append_assoc h.done fs.over (m.excerpt ∷ fs.ahead))

        place_is : g ≡ length (h.front ++ nx.over)
        place_is = let l = length-append h.front nx.over in let p = h.next in let q = nx.count in let r = counted in omega arith

        index_is : m.index ≡ length (h.done ++ fs.over)
        index_is = let l = length-append h.done fs.over in let p = fs.index in omega arith

        place_now : g ≡ length (map (on_member f) (h.front ++ nx.over))
        place_now = place_is ∙ sym (length-map (h.front ++ nx.over) (on_member f))

        index_now : m.index ≡ length (map f (h.done ++ fs.over))
        index_now = index_is ∙ sym (length-map (h.done ++ fs.over) f)

        seam : {A : Type 0} (front : List A) (x : A) (rest : List A) → front ++ x ∷ rest ≡ (front ++ x ∷ []) ++ rest
        seam front x rest = sym (append_assoc front (x ∷ []) rest)

        index_on : suc m.index ≡ length ((h.done ++ fs.over) ++ m.excerpt ∷ [])
        index_on = let l = length-append (h.done ++ fs.over) (m.excerpt ∷ []) in let r = index_is in omega arith

        -- this one has changed too
        on : (zs : List Excerpt) (os : List Member) → zs ≡ map f (h.done ++ fs.over) ++ f m.excerpt ∷ fs.ahead → os ≡ map (on_member f) (h.front ++ nx.over) ++ on_member f m ∷ nx.ahead → AreHalf b f xs zs ms os (g + 1)
        on zs os p q = record {
          front = (h.front ++ nx.over) ++ m ∷ [];
          rest = nx.ahead;
          members = ms_is ∙ seam (h.front ++ nx.over) m nx.ahead;
          new_members = q ∙ seam (map (on_member f) (h.front ++ nx.over)) (on_member f m) nx.ahead ∙ ap (λ (us : List Member). us ++ nx.ahead) (sym (map-append (on_member f) (h.front ++ nx.over) (m ∷ [])));
          next = (let l = length-append (h.front ++ nx.over) (m ∷ []) in let r = place_is in omega arith);
          done = (h.done ++ fs.over) ++ m.excerpt ∷ [];
          left = fs.ahead;
          excerpts = xs_is ∙ seam (h.done ++ fs.over) m.excerpt fs.ahead;
          new_excerpts = p ∙ seam (map f (h.done ++ fs.over)) (f m.excerpt) fs.ahead ∙ ap (λ (us : List Excerpt). us ++ fs.ahead) (sym (map-append f (h.done ++ fs.over) (m.excerpt ∷ [])));
          same = fs.more_is ∙ ap (λ (k : ℕ). members_from b k fs.ahead) index_on;
        }

        pub half_step : IsStep b f xs ys ms ns g m
        half_step = record {
          within = (let l = length-append (map f (h.done ++ fs.over)) (m.excerpt ∷ fs.ahead) in let r = index_now in let y = ap length ys_is in omega arith);
          place = (let l = length-append (map (on_member f) (h.front ++ nx.over)) (m ∷ nx.ahead) in let r = place_now in let y = ap length ns_is in omega arith);
          place_too = (let l = length-append (h.front ++ nx.over) (m ∷ nx.ahead) in let r = place_is in let y = ap length ms_is in omega arith);
          there = ap (λ (zs : List Excerpt). slice_get zs m.index) xs_is ∙ ap (slice_get ((h.done ++ fs.over) ++ m.excerpt ∷ fs.ahead)) index_is ∙ get_seam (h.done ++ fs.over) m.excerpt fs.ahead;
          buffer = eqb-true m.excerpt.buffer b fs.kept;
          put = on (splice_list m.index (m.index + 1) (f m.excerpt ∷ []) ys) (splice_list g (g + 1) (on_member f m ∷ []) ns)
              (ap (splice_list m.index (m.index + 1) (f m.excerpt ∷ [])) ys_is ∙ splice_here (map f (h.done ++ fs.over)) m.excerpt (f m.excerpt) fs.ahead m.index index_now)
              (ap (splice_list g (g + 1) (on_member f m ∷ [])) ns_is ∙ splice_here (map (on_member f) (h.front ++ nx.over)) m (on_member f m) nx.ahead g place_now);
          stay = λ o. on ys ns
              (ys_is ∙ ap (λ (x : Excerpt). map f (h.done ++ fs.over) ++ x ∷ fs.ahead) (sym o))
              (ns_is ∙ ap (λ (x : Member). map (on_member f) (h.front ++ nx.over) ++ x ∷ nx.ahead) (sym (same_member m (f m.excerpt) o)));
        }

      -- no member of the buffer is left
      module _ (s : slice_get ms g ≡ None) where
        rest_none : filter (is_of b) h.rest ≡ []
        rest_none = none_left (λ (r : Reach). holds_buffer b r.bounds) reach_of (is_of b) (holds_own b) h.rest (sym at_rest ∙ s)

        pub half_ends : ys ≡ map f xs
        half_ends =
            h.new_excerpts ∙ ap (λ (zs : List Excerpt). map f h.done ++ zs) (sym (others_stay h.left (none_first (length h.done) h.left (sym h.same ∙ rest_none))))
            ∙ sym (map-append f h.done h.left) ∙ ap (map f) (sym h.excerpts)

        others : (zs : List Member) → filter (is_of b) zs ≡ [] → AllByRecursion OtherMember zs
        others [] e = tt
        others (z ∷ zs) e = elim (cases_Bool (eqb z.excerpt.buffer b)) [
          | inl t ↦ (let o : z ∷ filter (is_of b) zs ≡ [] = rw t at e in cc)
          | inr t ↦ (t, others zs (rw t at e))
        ]

        pub half_members_end : ns ≡ map (on_member f) ms
        half_members_end =
            h.new_members ∙ ap (λ (zs : List Member). map (on_member f) h.front ++ zs) (sym (other_members_stay h.rest (others h.rest rest_none)))
            ∙ sym (map-append (on_member f) h.front h.rest) ∙ ap (map (on_member f)) (sym h.members)

    each_front : (P : Excerpt → Type 0) (us vs : List Excerpt) → AllByRecursion P (us ++ vs) → AllByRecursion P us
    each_front P [] vs a = tt
    each_front P (u ∷ us) vs a = (a.0, each_front P us vs a.1)

    each_back : (P : Excerpt → Type 0) (us vs : List Excerpt) → AllByRecursion P (us ++ vs) → AllByRecursion P vs
    each_back P [] vs a = a
    each_back P (u ∷ us) vs a = each_back P us vs a.1

    each_both : (P : Excerpt → Type 0) (us vs : List Excerpt) → AllByRecursion P us → AllByRecursion P vs → AllByRecursion P (us ++ vs)
    each_both P [] vs a c = c
    each_both P (u ∷ us) vs a c = (a.0, each_both P us vs a.1 c)

    -- each is short, if each was and is
    pub half_short : AreShort xs → AreShort (map f xs) → AreShort ys
    half_short a c = record {
      few = (
          let l = length-append (map f h.done) h.left in let k = length-append h.done h.left in let m = length-map h.done f in
          let p = ap length h.excerpts in let q = ap length h.new_excerpts in let w = a.few in omega arith);
      each = subst (AllByRecursion IsShort) (sym h.new_excerpts) (each_both IsShort (map f h.done) h.left
          (each_front IsShort (map f h.done) (map f h.left) (subst (AllByRecursion IsShort) (ap (map f) h.excerpts ∙ map-append f h.done h.left) c.each))
          (each_back IsShort h.done h.left (subst (AllByRecursion IsShort) h.excerpts a.each)));
    }

-- ---- the members that meet a part

module _ (q : Part) where
  only_own : (ms : List Member) → filter (is_meeting q) ms ≡ filter (is_meeting q) (filter (is_of q.buffer) ms)
  only_own [] = refl
  only_own (m ∷ ms) = elim (cases_Bool (eqb m.excerpt.buffer q.buffer)) [
    | inl t ↦ elim (cases_Bool (leb m.excerpt.start q.end)) [
      | inl u ↦ elim (cases_Bool (leb q.start m.excerpt.end)) [
        | inl v ↦ (let w : is_of q.buffer m ≡ true = t in rw (t, u, v, w) (ap (λ (ns : List Member). m ∷ ns) (only_own ms)))
        | inr v ↦ (let w : is_of q.buffer m ≡ true = t in rw (t, u, v, w) (only_own ms))
      ]
      | inr u ↦ (let w : is_of q.buffer m ≡ true = t in rw (t, u, w) (only_own ms))
    ]
    | inr t ↦ rw t (only_own ms)
  ]

  kept_meeting : (m : Member) (ms : List Member) → is_meeting q m ≡ true → filter (is_meeting q) (m ∷ ms) ≡ m ∷ filter (is_meeting q) ms
  kept_meeting m ms e = rw e refl

  passed_meeting : (m : Member) (ms : List Member) → is_meeting q m ≡ false → filter (is_meeting q) (m ∷ ms) ≡ filter (is_meeting q) ms
  passed_meeting m ms e = rw e refl

  first_own : (m : Member) (ms : List Member) → eqb m.index q.excerpt ≡ true → first_other q.excerpt (m ∷ ms) ≡ first_other q.excerpt ms
  first_own m ms e = rw e refl

  first_here : (m : Member) (ms : List Member) → eqb m.index q.excerpt ≡ false → first_other q.excerpt (m ∷ ms) ≡ Some m.index
  first_here m ms e = rw e refl

  module _ (i : ℕ) (x : Excerpt) (xs : List Excerpt) (r : first_other q.excerpt (filter (is_meeting q) (members_from q.buffer (suc i) xs)) ≡ sharing (suc i) q xs) where
    own_member : eqb x.buffer q.buffer ≡ true → members_from q.buffer i (x ∷ xs) ≡ member i x ∷ members_from q.buffer (suc i) xs
    own_member t = rw t refl

    no_member : eqb x.buffer q.buffer ≡ false → members_from q.buffer i (x ∷ xs) ≡ members_from q.buffer (suc i) xs
    no_member t = rw t refl

    shared_here : meets i q x ≡ true → sharing i q (x ∷ xs) ≡ Some i
    shared_here e = rw e refl

    shared_later : meets i q x ≡ false → sharing i q (x ∷ xs) ≡ sharing (suc i) q xs
    shared_later e = rw e refl

    of_another : eqb x.buffer q.buffer ≡ false → meets i q x ≡ false → first_other q.excerpt (filter (is_meeting q) (members_from q.buffer i (x ∷ xs))) ≡ sharing i q (x ∷ xs)
    of_another t e = ap (λ (ms : List Member). first_other q.excerpt (filter (is_meeting q) ms)) (no_member t) ∙ r ∙ sym (shared_later e)

    apart_here : eqb x.buffer q.buffer ≡ true → is_meeting q (member i x) ≡ false → meets i q x ≡ false
        → first_other q.excerpt (filter (is_meeting q) (members_from q.buffer i (x ∷ xs))) ≡ sharing i q (x ∷ xs)
    apart_here t n e =
        ap (λ (ms : List Member). first_other q.excerpt (filter (is_meeting q) ms)) (own_member t)
        ∙ ap (first_other q.excerpt) (passed_meeting (member i x) (members_from q.buffer (suc i) xs) n) ∙ r ∙ sym (shared_later e)

    own_here : eqb x.buffer q.buffer ≡ true → is_meeting q (member i x) ≡ true → eqb i q.excerpt ≡ true → meets i q x ≡ false
        → first_other q.excerpt (filter (is_meeting q) (members_from q.buffer i (x ∷ xs))) ≡ sharing i q (x ∷ xs)
    own_here t n o e =
        ap (λ (ms : List Member). first_other q.excerpt (filter (is_meeting q) ms)) (own_member t)
        ∙ ap (first_other q.excerpt) (kept_meeting (member i x) (members_from q.buffer (suc i) xs) n)
        ∙ first_own (member i x) (filter (is_meeting q) (members_from q.buffer (suc i) xs)) o ∙ r ∙ sym (shared_later e)

    other_here : eqb x.buffer q.buffer ≡ true → is_meeting q (member i x) ≡ true → eqb i q.excerpt ≡ false → meets i q x ≡ true
        → first_other q.excerpt (filter (is_meeting q) (members_from q.buffer i (x ∷ xs))) ≡ sharing i q (x ∷ xs)
    other_here t n o e =
        ap (λ (ms : List Member). first_other q.excerpt (filter (is_meeting q) ms)) (own_member t)
        ∙ ap (first_other q.excerpt) (kept_meeting (member i x) (members_from q.buffer (suc i) xs) n)
        ∙ first_here (member i x) (filter (is_meeting q) (members_from q.buffer (suc i) xs)) o ∙ sym (shared_here e)

  not_both : (a b : Bool) → b ≡ false → (a && b) ≡ false
  not_both true b e = e
  not_both false b e = refl

  not_first : (a b : Bool) → a ≡ false → (a && b) ≡ false
  not_first true b e = cc
  not_first false b e = refl

  shared_from : (i : ℕ) (xs : List Excerpt) → first_other q.excerpt (filter (is_meeting q) (members_from q.buffer i xs)) ≡ sharing i q xs
  shared_from i [] = refl
  shared_from i (x ∷ xs) = elim (cases_Bool (eqb i q.excerpt)) [
    | inl o ↦ elim (cases_Bool (eqb x.buffer q.buffer)) [
      | inl t ↦ elim (cases_Bool (leb x.start q.end)) [
        | inl u ↦ elim (cases_Bool (leb q.start x.end)) [
          | inl v ↦ own_here i x xs (shared_from (suc i) xs) t (both_true (eqb x.buffer q.buffer) (leb x.start q.end && leb q.start x.end) t (both_true (leb x.start q.end) (leb q.start x.end) u v)) o (rw o refl)
          | inr v ↦ apart_here i x xs (shared_from (suc i) xs) t (not_both (eqb x.buffer q.buffer) (leb x.start q.end && leb q.start x.end) (not_both (leb x.start q.end) (leb q.start x.end) v)) (rw o refl)
        ]
        | inr u ↦ apart_here i x xs (shared_from (suc i) xs) t (not_both (eqb x.buffer q.buffer) (leb x.start q.end && leb q.start x.end) (not_first (leb x.start q.end) (leb q.start x.end) u)) (rw o refl)
      ]
      | inr t ↦ of_another i x xs (shared_from (suc i) xs) t (rw o refl)
    ]
    | inr o ↦ elim (cases_Bool (eqb x.buffer q.buffer)) [
      | inl t ↦ elim (cases_Bool (leb x.start q.end)) [
        | inl u ↦ elim (cases_Bool (leb q.start x.end)) [
          | inl v ↦ other_here i x xs (shared_from (suc i) xs) t (both_true (eqb x.buffer q.buffer) (leb x.start q.end && leb q.start x.end) t (both_true (leb x.start q.end) (leb q.start x.end) u v)) o (rw (o, t, u, v) refl)
          | inr v ↦ apart_here i x xs (shared_from (suc i) xs) t (not_both (eqb x.buffer q.buffer) (leb x.start q.end && leb q.start x.end) (not_both (leb x.start q.end) (leb q.start x.end) v)) (rw (o, t, u, v) refl)
        ]
        | inr u ↦ elim (cases_Bool (leb q.start x.end)) [
          | inl v ↦ apart_here i x xs (shared_from (suc i) xs) t (not_both (eqb x.buffer q.buffer) (leb x.start q.end && leb q.start x.end) (not_first (leb x.start q.end) (leb q.start x.end) u)) (rw (o, t, u, v) refl)
          | inr v ↦ apart_here i x xs (shared_from (suc i) xs) t (not_both (eqb x.buffer q.buffer) (leb x.start q.end && leb q.start x.end) (not_first (leb x.start q.end) (leb q.start x.end) u)) (rw (o, t, u, v) refl)
        ]
      ]
      | inr t ↦ of_another i x xs (shared_from (suc i) xs) t (rw (o, t) refl)
    ]
  ]

  pub sharing_begins : (xs : List Excerpt) (ms : List Member) → AreMembers xs ms → first_other q.excerpt (filter (is_meeting q) ms) ≡ sharing 0 q xs
  sharing_begins xs ms a = ap (first_other q.excerpt) (only_own ms ∙ ap (filter (is_meeting q)) (a.each q.buffer)) ∙ shared_from 0 xs

  abbrev pub over_meeting : List Member → ℕ
  over_meeting ms = filter_count (λ (r : Reach). holds_meeting q r.bounds) reach_of ms

  drop_more : (n : ℕ) (ms over : List Member) (m : Member) (ahead : List Member) → drop n ms ≡ over ++ m ∷ ahead → drop (n + length over + 1) ms ≡ ahead
  drop_more zero ms over m ahead e =
      let one : over ++ m ∷ ahead ≡ (over ++ m ∷ []) ++ ahead = sym (append_assoc over (m ∷ []) ahead) in
      let long : zero + length over + 1 ≡ length (over ++ m ∷ []) = (let l = length-append over (m ∷ []) in omega arith) in
      ap (λ (k : ℕ). drop k ms) long ∙ ap (drop (length (over ++ m ∷ []))) (e ∙ one) ∙ drop-append_seam (over ++ m ∷ []) ahead
  drop_more (suc n) [] [] m ahead e = cc
  drop_more (suc n) [] (o ∷ over) m ahead e = cc
  drop_more (suc n) (p ∷ ms) over m ahead e =
      let z : suc n + length over + 1 ≡ suc (n + length over + 1) = omega arith in
      ap (λ (k : ℕ). drop k (p ∷ ms)) z ∙ drop_more n ms over m ahead e

  got_here : (n k : ℕ) (ms : List Member) → slice_get ms (n + k) ≡ slice_get (drop n ms) k
  got_here zero k ms = let z : 0 + k ≡ k = omega arith in ap (slice_get ms) z
  got_here (suc n) zero [] = refl
  got_here (suc n) (suc k) [] = refl
  got_here (suc n) k (m ∷ ms) = let z : suc n + k ≡ suc (n + k) = omega arith in ap (slice_get (m ∷ ms)) z ∙ got_here n k ms

  module _ (ms : List Member) (n g : ℕ) (e : g ≡ n + over_meeting (drop n ms)) where
    seen : slice_get ms g ≡ slice_get (drop n ms) (over_meeting (drop n ms))
    seen = ap (slice_get ms) e ∙ got_here n (over_meeting (drop n ms)) ms

    module _ (m : Member) (s : slice_get ms g ≡ Some m) where
      seen_next : IsNext (λ (r : Reach). holds_meeting q r.bounds) reach_of (is_meeting q) (holds_met q) (drop n ms) (over_meeting (drop n ms)) m
      seen_next = next_is (λ (r : Reach). holds_meeting q r.bounds) reach_of (is_meeting q) (holds_met q) (drop n ms) m (sym seen ∙ s)

      place_on : g + 1 ≡ n + length seen_next.over + 1
      place_on = let c = seen_next.count in omega arith

      met : filter (is_meeting q) (drop n ms) ≡ m ∷ filter (is_meeting q) (drop (g + 1) ms)
      met =
          filter_next (λ (r : Reach). holds_meeting q r.bounds) reach_of (is_meeting q) (holds_met q) (drop n ms) (over_meeting (drop n ms)) m seen_next
          ∙ ap (λ (ns : List Member). m ∷ filter (is_meeting q) ns) (sym (ap (λ (k : ℕ). drop k ms) place_on ∙ drop_more n ms seen_next.over m seen_next.ahead seen_next.parts))

      -- another one
      pub meets_other : eqb m.index q.excerpt ≡ false → first_other q.excerpt (filter (is_meeting q) (drop n ms)) ≡ Some m.index
      meets_other t = ap (first_other q.excerpt) met ∙ rw t refl

      -- the part's own
      pub meets_own : eqb m.index q.excerpt ≡ true → first_other q.excerpt (filter (is_meeting q) (drop n ms)) ≡ first_other q.excerpt (filter (is_meeting q) (drop (g + 1) ms))
      meets_own t = ap (first_other q.excerpt) met ∙ rw t refl

    pub meets_none : slice_get ms g ≡ None → first_other q.excerpt (filter (is_meeting q) (drop n ms)) ≡ None
    meets_none s = ap (first_other q.excerpt) (none_left (λ (r : Reach). holds_meeting q r.bounds) reach_of (is_meeting q) (holds_met q) (drop n ms) (sym seen ∙ s))

-- ---- what calls leave

pub AreExcerpts-none : (xs : List Excerpt) (ms : List Member) → xs ≡ [] → ms ≡ [] → AreExcerpts xs ms
AreExcerpts-none xs ms e f = rw (e, f) (record { short = AreShort-none; members = AreMembers-none })

pub AreExcerpts-same : (xs ys : List Excerpt) (ms ns : List Member) → xs ≡ ys → ms ≡ ns → AreExcerpts xs ms → AreExcerpts ys ns
AreExcerpts-same xs ys ms ns e f a = subst (λ (zs : List Excerpt). AreExcerpts zs ns) e (subst (AreExcerpts xs) f a)

pub AreExcerpts-put : (xs ys : List Excerpt) (ms ns : List Member) (i : ℕ) (x : Excerpt) → AreExcerpts xs ms → length xs < 2 ^ 20 → IsShort x → i ≡ length xs → ys ≡ xs ++ x ∷ [] → ns ≡ put_member (member i x) ms → AreExcerpts ys ns
AreExcerpts-put xs ys ms ns i x a l s e f g = AreExcerpts-same (xs ++ x ∷ []) ys (put_member (member (length xs) x) ms) ns (sym f) (sym (g ∙ ap (λ (k : ℕ). put_member (member k x) ms) e)) (record {
  short = AreShort-push xs x a.short l s;
  members = AreMembers-put xs ms x a.members;
})
