-- The fragments that a walk finds by a filter, and its places.
use Rattle.std.proofs.Common.{◌≡◌, ℕ, zero, suc, ◌+◌, ◌-◌, ◌<◌, ◌≤◌, min, Bool, true, false, cond, List, [], ◌∷◌, ◌++◌, length, take, drop, refl, sym, ap, ◌∙◌, arith, Option, Some, None, append_assoc, append-nil, length-append}
use Rattle.std.proofs.Math.Seq.{take-append_seam, drop-append_seam}
use Rattle.std.proofs.lemmas.Option.{same_Some}
use Rattle.std.specs.List.{AllByRecursion, slice_get}
use Rattle.tree_cursor.specs.Place.{Filtering}
use Rattle.tree_cursor.specs.Places.{place_behind, filter_count}
use Rattle.fragments.specs.declared.fragment.Fragment.{Fragment}
use Rattle.fragments.specs.declared.fragment.FragmentSummary.{FragmentSummary}
use Rattle.fragments.specs.Summaries.{summary_of}
use Rattle.fragments.specs.Laws.{shown_len}
use Rattle.fragments.proofs.Cells.{shown_append_len}
use Rattle.remote_edit.specs.declared.passed.Passed.{Passed}
use Rattle.remote_edit.specs.Passed.{move_passed}
use Rattle.remote_edit.specs.Carried.{hidden_len}
use Rattle.remote_edit.proofs.PassedPlaces.{hidden_append_len, passed_behind}

-- ---- what a filter goes over

module _ {A S : Type 0} (keeps : S → Bool) (sum_of : A → S) where
  abbrev pub Unkept : A → Type 0
  Unkept y = keeps (sum_of y) ≡ false

  -- those before the next that is kept are not kept
  pub record Next (rest : List A) (n : ℕ) (x : A) : Type 0 where
    pub over : List A
    pub ahead : List A
    pub parts : rest ≡ over ++ x ∷ ahead
    pub count : n ≡ length over
    pub unkept : AllByRecursion Unkept over
    pub kept : keeps (sum_of x) ≡ true

  next_here : (y x : A) (rest : List A) → keeps (sum_of y) ≡ true → y ≡ x → Next (y ∷ rest) 0 x
  next_here y x rest t e = record { over = []; ahead = rest; parts = ap (λ (z : A). z ∷ rest) e; count = refl; unkept = tt; kept = ap (λ (z : A). keeps (sum_of z)) (sym e) ∙ t }

  next_on : (y x : A) (rest : List A) (n : ℕ) → Unkept y → Next rest n x → Next (y ∷ rest) (1 + n) x
  next_on y x rest n u k = let c = k.count in record { over = y ∷ k.over; ahead = k.ahead; parts = ap (λ (z : List A). y ∷ z) k.parts; count = omega (arith, c); unkept = (u, k.unkept); kept = k.kept }

  get_on : (y : A) (rest : List A) (n : ℕ) (o : Option A) → slice_get (y ∷ rest) (1 + n) ≡ o → slice_get rest n ≡ o
  get_on y rest n o h = let q : suc n ≡ 1 + n = omega arith in ap (slice_get (y ∷ rest)) q ∙ h

  pub find_next : (rest : List A) (x : A) → slice_get rest (filter_count keeps sum_of rest) ≡ Some x → Next rest (filter_count keeps sum_of rest) x
  find_next [] x h = cc
  find_next (y ∷ rest) x h = go (keeps (sum_of y)) refl h (find_next rest x)
    where
      go : (b : Bool) → keeps (sum_of y) ≡ b → slice_get (y ∷ rest) (cond b 0 (1 + filter_count keeps sum_of rest)) ≡ Some x
          → (slice_get rest (filter_count keeps sum_of rest) ≡ Some x → Next rest (filter_count keeps sum_of rest) x) → Next (y ∷ rest) (cond b 0 (1 + filter_count keeps sum_of rest)) x
      go true e h ih = next_here y x rest e (same_Some y x h)
      go false e h ih = next_on y x rest (filter_count keeps sum_of rest) e (ih (get_on y rest (filter_count keeps sum_of rest) (Some x) h))

  -- none is kept
  pub record Last (rest : List A) (n : ℕ) : Type 0 where
    pub count : n ≡ length rest
    pub unkept : AllByRecursion Unkept rest

  last_on : (y : A) (rest : List A) (n : ℕ) → Unkept y → Last rest n → Last (y ∷ rest) (1 + n)
  last_on y rest n u k = let c = k.count in record { count = omega (arith, c); unkept = (u, k.unkept) }

  pub find_none : (rest : List A) → slice_get rest (filter_count keeps sum_of rest) ≡ None → Last rest (filter_count keeps sum_of rest)
  find_none [] h = record { count = refl; unkept = tt }
  find_none (y ∷ rest) h = go (keeps (sum_of y)) refl h (find_none rest)
    where
      go : (b : Bool) → keeps (sum_of y) ≡ b → slice_get (y ∷ rest) (cond b 0 (1 + filter_count keeps sum_of rest)) ≡ None
          → (slice_get rest (filter_count keeps sum_of rest) ≡ None → Last rest (filter_count keeps sum_of rest)) → Last (y ∷ rest) (cond b 0 (1 + filter_count keeps sum_of rest))
      go true e h ih = cc
      go false e h ih = last_on y rest (filter_count keeps sum_of rest) e (ih (get_on y rest (filter_count keeps sum_of rest) None h))

-- ---- places

abbrev pub nothing_passed : Passed
nothing_passed = record { visible = 0; hidden = 0 }

-- a place after the first fragments
pub record IsBehind (at : Passed) (fs : List Fragment) : Type 0 where
  pub shown_is : at.visible ≡ shown_len fs
  pub hidden_is : at.hidden ≡ hidden_len fs

-- how far a place lies after another, with xs between them
pub record IsPast (from to : Passed) (xs : List Fragment) : Type 0 where
  pub low : from.visible ≤ to.visible
  pub low_hidden : from.hidden ≤ to.hidden
  pub shown_is : to.visible - from.visible ≡ shown_len xs
  pub hidden_is : to.hidden - from.hidden ≡ hidden_len xs

past : (from to : Passed) (pre xs : List Fragment) → IsBehind from pre → IsBehind to (pre ++ xs) → IsPast from to xs
past from to pre xs a b =
    let s = shown_append_len pre xs in let h = hidden_append_len pre xs in
    let s0 = a.shown_is in let s1 = b.shown_is in let h0 = a.hidden_is in let h1 = b.hidden_is in
    record { low = omega (arith, s, s0, s1); low_hidden = omega (arith, h, h0, h1); shown_is = omega (arith, s, s0, s1); hidden_is = omega (arith, h, h0, h1) }

-- a cursor over fragments
abbrev pub Cursor : Type 0 → Type 0
Cursor K = Filtering Fragment Passed K

-- the place after the first n of its fragments
abbrev pub place_at : {K : Type 0} → Cursor K → ℕ → ℕ × ℕ
place_at a n = place_behind move_passed summary_of (a.from.visible, a.from.hidden) (take n a.items)

place_behind_front : {K : Type 0} (a : Cursor K) (at : Passed) (n : ℕ) (pre rest : List Fragment) → a.items ≡ pre ++ rest → a.from ≡ nothing_passed → n ≡ length pre
    → (at.visible, at.hidden) ≡ place_at a n → IsBehind at pre
place_behind_front a at n pre rest w f l e =
    let t : take n a.items ≡ pre = ap (take n) w ∙ ap (λ (k : ℕ). take k (pre ++ rest)) l ∙ take-append_seam pre rest in
    let q : (at.visible, at.hidden) ≡ (0 + shown_len pre, 0 + hidden_len pre) =
    e ∙ ap (place_behind move_passed summary_of (a.from.visible, a.from.hidden)) t
    ∙ ap (λ (p : Passed). place_behind move_passed summary_of (p.visible, p.hidden) pre) f ∙ passed_behind 0 0 pre in
    let v = ap (λ (p : ℕ × ℕ). p.0) q in
    let h = ap (λ (p : ℕ × ℕ). p.1) q in
    record { shown_is = omega (arith, v); hidden_is = omega (arith, h) }

-- ---- a walk

module _ {K : Type 0} (keeps : K → FragmentSummary → Bool) where
  -- the number of fragments that the cursor goes over
  abbrev pub over : Cursor K → ℕ
  over a = filter_count (keeps a.keep) summary_of (drop a.next a.items)

  -- b is a one step on
  abbrev pub IsNext : Cursor K → Cursor K → Type 0
  IsNext a b = b ≡ record a { given = a.next + over a; next = min (a.next + over a + 1) (length a.items) }

  module _ (want : FragmentSummary → Bool) (fs : List Fragment) where
    -- the cursor a goes over fs by a filter for these, and is after pre, at the place `at`, with rest ahead of it
    pub record Stands (pre rest : List Fragment) (a : Cursor K) (at : Passed) : Type 0 where
      pub items : a.items ≡ fs
      pub keep : keeps a.keep ≡ want
      pub from : a.from ≡ nothing_passed
      pub whole : fs ≡ pre ++ rest
      pub count : a.next ≡ length pre
      pub at_is : IsBehind at pre

    pub stands_first : (k : K) (a : Cursor K) → keeps k ≡ want → a ≡ record { items = fs; from = nothing_passed; keep = k; given = 0; next = 0 } → Stands [] fs a nothing_passed
    stands_first k a w e = record {
      items = ap (λ (b : Cursor K). b.items) e;
      keep = ap (λ (b : Cursor K). keeps b.keep) e ∙ w;
      from = ap (λ (b : Cursor K). b.from) e;
      whole = refl;
      count = ap (λ (b : Cursor K). b.next) e;
      at_is = record { shown_is = refl; hidden_is = refl };
    }

    module _ (pre rest : List Fragment) (a b : Cursor K) (at : Passed) (p : Stands pre rest a at) (m : IsNext a b) where
      dropped : drop a.next a.items ≡ rest
      dropped = ap (drop a.next) (p.items ∙ p.whole) ∙ ap (λ (n : ℕ). drop n (pre ++ rest)) p.count ∙ drop-append_seam pre rest

      abbrev rest_over : ℕ
      rest_over = filter_count want summary_of rest

      over_is : over a ≡ rest_over
      over_is = ap (λ (f : FragmentSummary → Bool). filter_count f summary_of (drop a.next a.items)) p.keep ∙ ap (filter_count want summary_of) dropped

      get_ahead : (front : List Fragment) (i n : ℕ) → i ≡ length front + n → slice_get (front ++ rest) i ≡ slice_get rest n
      get_ahead [] i n e = ap (slice_get rest) (let q : i ≡ n = omega arith in q)
      get_ahead (y ∷ front) zero n e = absurd (omega arith)
      get_ahead (y ∷ front) (suc i) n e = get_ahead front i n (omega arith)

      get_rest : (o : Option Fragment) → slice_get a.items (a.next + over a) ≡ o → slice_get rest rest_over ≡ o
      get_rest o h = sym (get_ahead pre (a.next + over a) rest_over (let u = over_is in let c = p.count in omega (arith, u, c))) ∙ ap (λ (z : List Fragment). slice_get z (a.next + over a)) (sym (p.items ∙ p.whole)) ∙ h

      items_are : b.items ≡ fs
      items_are = ap (λ (z : Cursor K). z.items) m ∙ p.items

      from_is : b.from ≡ nothing_passed
      from_is = ap (λ (z : Cursor K). z.from) m ∙ p.from

      -- fragment x comes next, after xs, which are passed; it starts at s
      pub record Found (x : Fragment) (s : Passed) : Type 0 where
        pub xs : List Fragment
        pub ahead : List Fragment
        pub parts : rest ≡ xs ++ x ∷ ahead
        pub unkept : AllByRecursion (Unkept want summary_of) xs
        pub kept : want (summary_of x) ≡ true
        pub start : IsBehind s (pre ++ xs)
        pub skipped : IsPast at s xs
        pub smaller : length fs - b.next < length fs - a.next
        pub on : (q : Passed) → (q.visible, q.hidden) ≡ place_at b b.next → Stands ((pre ++ xs) ++ x ∷ []) ahead b q

      pub find : (x : Fragment) (s : Passed) → slice_get a.items (a.next + over a) ≡ Some x → (s.visible, s.hidden) ≡ place_at b b.given → Found x s
      find x s g e =
          let n = find_next want summary_of rest x (get_rest (Some x) g) in
          let whole : fs ≡ (pre ++ n.over) ++ x ∷ n.ahead = p.whole ∙ ap (λ (z : List Fragment). pre ++ z) n.parts ∙ sym (append_assoc pre n.over (x ∷ n.ahead)) in
          let long = length-append pre n.over in
          let given = ap (λ (z : Cursor K). z.given) m in
          let next = ap (λ (z : Cursor K). z.next) m in
          let front = p.count in let passed = n.count in let o = over_is in
          let many = ap length p.items in
          let all = ap length whole ∙ length-append (pre ++ n.over) (x ∷ n.ahead) in
          let count : b.given ≡ length (pre ++ n.over) = omega (arith, given, front, passed, o, long) in
          let start : IsBehind s (pre ++ n.over) = place_behind_front b s b.given (pre ++ n.over) (x ∷ n.ahead) (items_are ∙ whole) from_is count e in
          let next_is : b.next ≡ b.given + 1 = omega (arith, next, given, many, all, count) in
          let whole2 : fs ≡ ((pre ++ n.over) ++ x ∷ []) ++ n.ahead = whole ∙ sym (append_assoc (pre ++ n.over) (x ∷ []) n.ahead) in
          let long2 = length-append (pre ++ n.over) (x ∷ []) in
          let count2 : b.next ≡ length ((pre ++ n.over) ++ x ∷ []) = omega (arith, next_is, count, long2) in
          record {
            xs = n.over;
            ahead = n.ahead;
            parts = n.parts;
            unkept = n.unkept;
            kept = n.kept;
            start = start;
            skipped = past at s pre n.over p.at_is start;
            smaller = omega (arith, next_is, given, count, all);
            on = λ q f. record {
              items = items_are;
              keep = ap (λ (z : Cursor K). keeps z.keep) m ∙ p.keep;
              from = from_is;
              whole = whole2;
              count = count2;
              at_is = place_behind_front b q b.next ((pre ++ n.over) ++ x ∷ []) n.ahead (items_are ∙ whole2) from_is count2 f;
            };
          }

      -- no further one comes: all end at s
      pub record Done (s : Passed) : Type 0 where
        pub unkept : AllByRecursion (Unkept want summary_of) rest
        pub start : IsBehind s (pre ++ rest)
        pub skipped : IsPast at s rest

      pub find_end : (s : Passed) → slice_get a.items (a.next + over a) ≡ None → (s.visible, s.hidden) ≡ place_at b b.given → Done s
      find_end s g e =
          let n = find_none want summary_of rest (get_rest None g) in
          let whole : fs ≡ (pre ++ rest) ++ [] = p.whole ∙ sym (append-nil (pre ++ rest)) in
          let long = length-append pre rest in
          let given = ap (λ (z : Cursor K). z.given) m in
          let front = p.count in let passed = n.count in let o = over_is in
          let count : b.given ≡ length (pre ++ rest) = omega (arith, given, front, passed, o, long) in
          let start : IsBehind s (pre ++ rest) = place_behind_front b s b.given (pre ++ rest) [] (items_are ∙ whole) from_is count e in
          record { unkept = n.unkept; start = start; skipped = past at s pre rest p.at_is start }
