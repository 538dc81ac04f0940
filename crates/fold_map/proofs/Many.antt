-- Spans after many edits: runs of them are made again or stay, from the last to the first.
use Rattle.std.proofs.Common.{◌≡◌, inl, inr, ℕ, zero, suc, ◌+◌, ◌-◌, ◌≤◌, ◌<◌, List, [], ◌∷◌, ◌++◌, length, map, take, drop, get_or, refl, sym, ap, ◌∙◌, subst, arith, append_assoc}
use Rattle.std.specs.Prelude.{◌⊎◌, slice_range}
use Rattle.std.specs.List.{All}
use Rattle.std.specs.List.Sorted.{IsPermutation}
use Rattle.std.proofs.lemmas.Bool.{cases_lt}
use Rattle.std.proofs.lemmas.List.{map-append, take_all, drop_all, append-nil}
use Rattle.std.proofs.lemmas.List.Elements.{All-nil, All-map, All-weaker, All-append, All-same}
use Rattle.std.proofs.lemmas.List.Sorted.{IsPermutation-refl, IsPermutation-map, IsPermutation-append, IsPermutation-trans, All-permutation}
use Rattle.fold_spans.specs.Marks.{Range, Mark, marks}
use Rattle.fold_spans.specs.Spans.{marks_of, text_sum}
use Rattle.fold_spans.specs.Found.{start_of}
use Rattle.fold_spans.specs.Sweep.{range_of, IsWithin, HaveInOrder, HaveFolds}
use Rattle.fold_spans.specs.Parts.{AreKept}
use Rattle.fold_spans.specs.declared.span.Span.{Span}
use Rattle.fold_spans.specs.declared.sweep.FoldRange.{FoldRange}
use Rattle.fold_spans.proofs.BySpan.{length_marks_of, marks_of-append}
use Rattle.fold_spans.proofs.Sums.{text_sum-append, take_sum}
use Rattle.fold_spans.proofs.Homes.{marks_in_any_order}
use Rattle.fold_spans.proofs.Kept.{marks_split}
use Rattle.fold_map.proofs.ShownParts.{length_marks}
use Rattle.fold_map.proofs.KeptRuns.{Bounds, IsAround, around_all, kept_marks}
use Rattle.fold_map.proofs.Runs.{LiesIn, Stand, have_split, have_join, have_within, three_are, within, cut_same, parts, run_end}
use Rattle.fold_map.proofs.Moved.{IsMoved, have_moved, left_part, right_part}

take_empty : (x : ℕ) (ts : List Span) → ts ≡ [] → take x ts ≡ []
take_empty zero ts e = refl
take_empty (suc x) [] e = refl
take_empty (suc x) (t ∷ ts) e = cc

-- ---- a run of spans more, before those that are done

module _ (f : FoldRange → FoldRange) (ss : List Span) (rs : List FoldRange) (n m : ℕ) (s : Stand ss rs n) where
  abbrev sorted : List FoldRange
  sorted = s.homes.0

  abbrev pub now : List Range
  now = map range_of (map f rs)

  -- the spans from index k on are done: Z stands for them from place j of the new text on
  pub record IsDone (k j : ℕ) (Z : List Span) : Type 0 where
    pub before_them : List FoldRange
    pub theirs : List FoldRange
    pub all : sorted ≡ before_them ++ theirs
    pub before : HaveInOrder 0 (take k ss) before_them
    pub lies : All (LiesIn (start_of ss k) n) theirs
    pub none : k ≡ length ss → theirs ≡ []
    pub new : List FoldRange
    pub order : IsPermutation (map f theirs) new
    pub homes : HaveInOrder j Z new
    pub marks : marks_of Z ≡ marks now j (m - j)
    pub room : j ≤ m
    pub len : text_sum Z ≡ m - j

  pub total : text_sum ss ≡ n
  total = sym (length_marks_of ss) ∙ ap length s.marks ∙ length_of (map range_of rs) 0 n
    where
      length_of : (rs : List Range) (i n : ℕ) → length (marks rs i n) ≡ n
      length_of rs i zero = refl
      length_of rs i (suc n) = ap suc (length_of rs (suc i) n)

  pub none_done : IsDone (length ss) m []
  none_done = record {
    before_them = sorted;
    theirs = [];
    all = sym (append-nil sorted);
    before = subst (λ (xs : List Span). HaveInOrder 0 xs sorted) (sym (take_all (length ss) ss (omega arith))) s.homes.2;
    lies = All-nil (LiesIn (start_of ss (length ss)) n);
    none = λ e. refl;
    new = [];
    order = IsPermutation-refl [];
    homes = refl;
    marks = let z : 0 ≡ m - m = omega arith in ap (marks now m) z;
    room = omega arith;
    len = omega arith;
  }

  pub all_done : (j : ℕ) (Z : List Span) → j ≡ 0 → IsDone 0 j Z → Stand Z (map f rs) m
  all_done j Z e d =
      let none : d.before_them ≡ [] = d.before in
      let all : sorted ≡ d.theirs = d.all ∙ ap (λ (xs : List FoldRange). xs ++ d.theirs) none in
      let z : m - j ≡ m = omega (arith, e) in
      record {
        marks = d.marks ∙ ap (λ (i : ℕ). marks now i (m - j)) e ∙ ap (marks now 0) z;
        homes = (
          d.new,
          IsPermutation-trans (map f rs) (map f d.theirs) d.new (subst (λ (xs : List FoldRange). IsPermutation (map f rs) (map f xs)) all (IsPermutation-map f rs sorted s.homes.1)) d.order,
          subst (λ (i : ℕ). HaveInOrder i Z d.new) e d.homes,
        );
      }

  module _ (i k : ℕ) (o : i ≤ k) (w : k ≤ length ss) (j : ℕ) (Z : List Span) (d : IsDone k j Z) where
    pub fronts : take k ss ≡ take i ss ++ slice_range ss i k
    fronts = front_parts ss i k o
      where
        front_parts : (ss : List Span) (i k : ℕ) → i ≤ k → take k ss ≡ take i ss ++ take (k - i) (drop i ss)
        front_parts ss zero k o = let z : k ≡ k - 0 = omega arith in ap (λ (x : ℕ). take x ss) z
        front_parts ss (suc i) zero o = absurd (omega (arith, o))
        front_parts [] (suc i) (suc k) o = sym (take_empty (suc k - suc i) [] refl)
        front_parts (t ∷ ts) (suc i) (suc k) o = let z : k - i ≡ suc k - suc i = omega arith in ap (λ (xs : List Span). t ∷ xs) (front_parts ts i k (omega (arith, o)) ∙ ap (λ (x : ℕ). take i ts ++ take x (drop i ts)) z)

    abbrev pub cut : (xs : List FoldRange) × (ws : List FoldRange) × (d.before_them ≡ xs ++ ws) × HaveInOrder 0 (take i ss) xs × HaveInOrder (0 + text_sum (take i ss)) (slice_range ss i k) ws
    cut = have_split 0 (take i ss) (slice_range ss i k) d.before_them (subst (λ (xs : List Span). HaveInOrder 0 xs d.before_them) fronts d.before)

    -- the ranges before the run, and those in it
    abbrev pub ahead : List FoldRange
    ahead = cut.0

    abbrev pub here : List FoldRange
    here = cut.1

    run_len : start_of ss i + text_sum (slice_range ss i k) ≡ start_of ss k
    run_len = run_end ss i k o w

    in_text : start_of ss k ≤ n
    in_text =
        let t = total in
        let p = take_sum ss k (length ss) w in
        let q = ap text_sum (take_all (length ss) ss (omega arith)) in omega (arith, t, p, q)

    pub here_lies : All (LiesIn (start_of ss i) (start_of ss k)) here
    here_lies =
        let e = run_len in
        All-weaker (LiesIn (0 + text_sum (take i ss)) (0 + text_sum (take i ss) + text_sum (slice_range ss i k))) (LiesIn (start_of ss i) (start_of ss k))
        (λ r u. record { start = (let x = u.start in omega (arith, x)); end = (let x = u.end in omega (arith, x, e)) }) here (have_within (0 + text_sum (take i ss)) (slice_range ss i k) here cut.4)

    pub ahead_lies : All (LiesIn 0 (start_of ss i)) ahead
    ahead_lies = All-weaker (LiesIn 0 (0 + text_sum (take i ss))) (LiesIn 0 (start_of ss i)) (λ r u. record { start = u.start; end = (let x = u.end in omega (arith, x)) }) ahead (have_within 0 (take i ss) ahead cut.3)

    -- past the last span there are none, and none before the first one
    none_here : i ≡ length ss → here ≡ []
    none_here e =
        let z : slice_range ss i k ≡ [] = take_empty (k - i) (drop i ss) (drop_all i ss (omega (arith, e))) in
        subst (λ (xs : List Span). HaveInOrder (0 + text_sum (take i ss)) xs here) z cut.4

    none_ahead : i ≡ 0 → ahead ≡ []
    none_ahead e = subst (λ (x : ℕ). HaveInOrder 0 (take x ss) ahead) e cut.3

    all_parts : sorted ≡ ahead ++ (here ++ d.theirs)
    all_parts = d.all ∙ ap (λ (xs : List FoldRange). xs ++ d.theirs) cut.2 ∙ append_assoc ahead here d.theirs

    pub all_here : IsPermutation rs (ahead ++ (here ++ d.theirs))
    all_here = subst (IsPermutation rs) all_parts s.homes.1

    pub now_here : IsPermutation (map f rs) (map f ahead ++ (map f here ++ map f d.theirs))
    now_here = subst (IsPermutation (map f rs)) (map-append f ahead (here ++ d.theirs) ∙ ap (λ (xs : List FoldRange). map f ahead ++ xs) (map-append f here d.theirs))
        (IsPermutation-map f rs (ahead ++ (here ++ d.theirs)) all_here)

    -- spans in the place of the run, from place p of the new text on
    pub one_more : (p : ℕ) (list : List Span) → p ≤ j → HaveFolds p list (map f here) → marks_of list ≡ marks now p (j - p) → text_sum list ≡ j - p → IsDone i p (list ++ Z)
    one_more p list l h g e =
        let room = d.room in
        let len = d.len in
        let wide : m - p ≡ (j - p) + (m - j) = omega (arith, l, room) in
        let there : p + text_sum list ≡ j = omega (arith, l, e) in
        let sum = text_sum-append list Z in
        let lo = take_sum ss i k o in
        let hi = in_text in
        record {
          before_them = ahead;
          theirs = here ++ d.theirs;
          all = all_parts;
          before = cut.3;
          lies = All-append (LiesIn (start_of ss i) n) here d.theirs
              (All-weaker (LiesIn (start_of ss i) (start_of ss k)) (LiesIn (start_of ss i) n) (λ r u. record { start = u.start; end = (let x = u.end in omega (arith, x, hi)) }) here here_lies)
              (All-weaker (LiesIn (start_of ss k) n) (LiesIn (start_of ss i) n) (λ r u. record { start = (let x = u.start in omega (arith, x, lo)); end = u.end }) d.theirs d.lies);
          none = λ q. (let y : k ≡ length ss = omega (arith, q, o, w) in ap (λ (xs : List FoldRange). xs ++ d.theirs) (none_here q) ∙ d.none y);
          new = h.0 ++ d.new;
          order = subst (λ (xs : List FoldRange). IsPermutation xs (h.0 ++ d.new)) (sym (map-append f here d.theirs)) (IsPermutation-append (map f here) h.0 (map f d.theirs) d.new h.1 d.order);
          homes = have_join p list Z h.0 d.new h.2 (subst (λ (x : ℕ). HaveInOrder x Z d.new) (sym there) d.homes);
          marks = marks_of-append list Z ∙ ap (λ (ms : List Mark). ms ++ marks_of Z) g ∙ ap (λ (ms : List Mark). marks now p (j - p) ++ ms) d.marks
              ∙ sym (ap (marks now p) wide ∙ marks_split now (j - p) p (m - j) j (omega (arith, l)));
          room = omega (arith, l, room);
          len = omega (arith, sum, e, len, l, room);
        }

    of_all : (P : FoldRange → Type 0) → All P rs → All P (ahead ++ (here ++ d.theirs))
    of_all P a = All-permutation P rs (ahead ++ (here ++ d.theirs)) all_here a

    of_ahead : (P : FoldRange → Type 0) → All P rs → All P ahead
    of_ahead P a = left_part P ahead (here ++ d.theirs) (of_all P a)

    pub of_here : (P : FoldRange → Type 0) → All P rs → All P here
    of_here P a = left_part P here d.theirs (right_part P ahead (here ++ d.theirs) (of_all P a))

    of_theirs : (P : FoldRange → Type 0) → All P rs → All P d.theirs
    of_theirs P a = right_part P here d.theirs (right_part P ahead (here ++ d.theirs) (of_all P a))

    -- ---- a run that is made again

    module _ (b : All (λ r. Bounds n m r (f r)) rs) (p : ℕ) (l : p ≤ j)
        (first_start : All (λ r. start_of ss i ≤ r.start → p ≤ (f r).start) rs) (first_end : (i ≡ 0) ⊎ All (λ r. r.end ≤ start_of ss i → (f r).end ≤ p) rs)
        (last_end : All (λ r. r.end ≤ start_of ss k → (f r).end ≤ j) rs) (last_start : (k ≡ length ss) ⊎ All (λ r. start_of ss k ≤ r.start → j ≤ (f r).start) rs) where
      pub here_within : All (IsWithin p j) (map f here)
      here_within =
          let u = of_here (λ r. Bounds n m r (f r)) b in
          let v = of_here (λ r. start_of ss i ≤ r.start → p ≤ (f r).start) first_start in
          let w = of_here (λ r. r.end ≤ start_of ss k → (f r).end ≤ j) last_end in
          let h = here_lies in
          All-map (IsWithin p j) f here (λ x e t. record { start = v x e t (h x e t).start; order = (u x e t).new.order; end = w x e t (h x e t).end })

      ahead_now : All (LiesIn 0 p) (map f ahead)
      ahead_now = elim first_end [
        | inl z ↦ All-same (LiesIn 0 p) (map f ahead) [] (ap (map f) (none_ahead z)) (All-nil (LiesIn 0 p))
        | inr a ↦
            let v = of_ahead (λ r. r.end ≤ start_of ss i → (f r).end ≤ p) a in
            let h = ahead_lies in
            All-map (LiesIn 0 p) f ahead (λ x e t. record { start = omega arith; end = v x e t (h x e t).end })
      ]

      theirs_now : All (LiesIn j m) (map f d.theirs)
      theirs_now = elim last_start [
        | inl z ↦ All-same (LiesIn j m) (map f d.theirs) [] (ap (map f) (d.none z)) (All-nil (LiesIn j m))
        | inr a ↦
            let u = of_theirs (λ r. Bounds n m r (f r)) b in
            let v = of_theirs (λ r. start_of ss k ≤ r.start → j ≤ (f r).start) a in
            let h = d.lies in
            All-map (LiesIn j m) f d.theirs (λ x e t. record { start = v x e t (h x e t).start; end = (u x e t).new.end })
      ]

      window_marks : marks (map range_of (map f here)) p (j - p) ≡ marks now p (j - p)
      window_marks =
          let lies : All (LiesIn p j) (map f here) = All-weaker (IsWithin p j) (LiesIn p j) (λ r u. record { start = u.start; end = u.end }) (map f here) here_within in
          sym (within (map f ahead) (map f here) (map f d.theirs) p j m l d.room ahead_now lies theirs_now)
          ∙ ap (λ (xs : List Range). marks xs p (j - p)) (sym (three_are (map f ahead) (map f here) (map f d.theirs)))
          ∙ sym (marks_in_any_order now (map range_of (map f ahead ++ (map f here ++ map f d.theirs))) p (j - p) (IsPermutation-map range_of (map f rs) (map f ahead ++ (map f here ++ map f d.theirs)) now_here))

      pub made_more : (list : List Span) → HaveFolds p list (map f here) → marks_of list ≡ marks (map range_of (map f here)) p (j - p) → text_sum list ≡ j - p → IsDone i p (list ++ Z)
      made_more list h g e = one_more p list l h (g ∙ window_marks) e

    -- ---- a run that stays

    module _ (b : All (λ r. Bounds n m r (f r)) rs) (x y c : ℕ) (kept : AreKept (map range_of rs) now x y c) (low : x ≤ start_of ss i) (high : start_of ss k ≤ x + c) (there : j ≡ y + (start_of ss k - x))
        (lo : (x < start_of ss i) ⊎ ((start_of ss i ≡ 0) × (y + (start_of ss i - x) ≡ 0))) (hi : (start_of ss k < x + c) ⊎ ((n ≤ start_of ss k) × (y + (start_of ss k - x) ≡ m))) where
      abbrev from : ℕ
      from = start_of ss i

      abbrev to : ℕ
      to = start_of ss k

      abbrev new_from : ℕ
      new_from = y + (from - x)

      rises : from ≤ to
      rises = take_sum ss i k o

      all_around : (u : ℕ) → from ≤ u → u ≤ to → All (λ r. IsAround u (y + (u - x)) r (f r)) rs
      all_around u a e = around_all f rs n m b x y c kept u (omega (arith, low, a)) (omega (arith, e, high)) (below lo) (above hi)
        where
          below : (x < from) ⊎ ((from ≡ 0) × (y + (from - x) ≡ 0)) → (x < u) ⊎ ((u ≡ 0) × (y + (u - x) ≡ 0))
          below (inl t) = inl (omega (arith, t, a))
          below (inr t) = let p = t.0 in let q = t.1 in elim (cases_lt x u) [ inl v ↦ inl v | inr v ↦ inr (omega (arith, v, low, p), omega (arith, v, low, p, q)) ]

          above : (to < x + c) ⊎ ((n ≤ to) × (y + (to - x) ≡ m)) → (u < x + c) ⊎ ((n ≤ u) × (y + (u - x) ≡ m))
          above (inl t) = inl (omega (arith, t, e))
          above (inr t) = let p = t.0 in let q = t.1 in elim (cases_lt u (x + c)) [ inl v ↦ inl v | inr v ↦ inr (omega (arith, v, high, e, p), omega (arith, v, high, e, q)) ]

      moves : All (λ r. IsMoved from new_from r (f r)) here
      moves =
          let h = here_lies in
          let u = of_here (λ r. Bounds n m r (f r)) b in
          λ q e t. (
          let r : FoldRange = get_or here q e in
          let a = (h q e t).start in
          let z = (h q e t).end in
          let g = (u q e t).old.order in
          let s1 = of_here (λ r. IsAround (get_or here q e).start (y + ((get_or here q e).start - x)) r (f r)) (all_around (get_or here q e).start a (omega (arith, g, z))) q e t in
          let s2 = of_here (λ r. IsAround (get_or here q e).end (y + ((get_or here q e).end - x)) r (f r)) (all_around (get_or here q e).end (omega (arith, a, g)) z) q e t in
          let p1 = s1.start_low (omega arith) in
          let p2 = s1.start_high (omega arith) in
          let p3 = s2.end_low (omega arith) in
          let p4 = s2.end_high (omega arith) in
          record { start = omega (arith, p1, p2, a, low); end = omega (arith, p3, p4, a, g, low); number = (u q e t).number }
          )

      old_marks : marks_of (slice_range ss i k) ≡ marks (map range_of rs) from (to - from)
      old_marks =
          let t = total in
          let v = in_text in
          let g = rises in
          let e1 : n ≡ from + (n - from) = omega (arith, v, g) in
          let e2 : n - from ≡ (to - from) + (n - to) = omega (arith, v, g) in
          let cutting : marks_of (take i ss) ++ (marks_of (slice_range ss i k) ++ marks_of (drop k ss)) ≡ marks (map range_of rs) 0 from ++ (marks (map range_of rs) from (to - from) ++ marks (map range_of rs) to (n - to)) =
          sym (ap marks_of (parts ss i k o w) ∙ marks_of-append (take i ss) (slice_range ss i k ++ drop k ss) ∙ ap (λ (ms : List Mark). marks_of (take i ss) ++ ms) (marks_of-append (slice_range ss i k) (drop k ss)))
          ∙ s.marks ∙ ap (λ (z : ℕ). marks (map range_of rs) 0 z) e1 ∙ marks_split (map range_of rs) from 0 (n - from) from (omega arith)
          ∙ ap (λ (z : ℕ). marks (map range_of rs) 0 from ++ marks (map range_of rs) from z) e2
          ∙ ap (λ (ms : List Mark). marks (map range_of rs) 0 from ++ ms) (marks_split (map range_of rs) (to - from) from (n - to) to (omega (arith, g))) in
          let first_cut = cut_same (marks_of (take i ss)) (marks (map range_of rs) 0 from) (marks_of (slice_range ss i k) ++ marks_of (drop k ss)) (marks (map range_of rs) from (to - from) ++ marks (map range_of rs) to (n - to))
          (length_marks_of (take i ss) ∙ sym (length_marks (map range_of rs) 0 from)) cutting in
          let wide : text_sum (slice_range ss i k) ≡ to - from = (let q = run_len in omega (arith, q)) in
          (cut_same (marks_of (slice_range ss i k)) (marks (map range_of rs) from (to - from)) (marks_of (drop k ss)) (marks (map range_of rs) to (n - to))
          (length_marks_of (slice_range ss i k) ∙ wide ∙ sym (length_marks (map range_of rs) from (to - from))) first_cut.1).0

      pub kept_more : IsDone i new_from (slice_range ss i k ++ Z)
      kept_more =
          let g = rises in
          let q = run_len in
          let wide : to - from ≡ j - new_from = omega (arith, there, g, low) in
          one_more new_from (slice_range ss i k) (omega (arith, there, g, low))
          (map f here, IsPermutation-refl (map f here), have_moved f from new_from (0 + text_sum (take i ss)) new_from (slice_range ss i k) here (omega arith) moves cut.4)
          (old_marks ∙ kept_marks (map range_of rs) now x y c kept from new_from (to - from) low refl (omega (arith, g, high)) lo ∙ ap (marks now new_from) wide)
          (omega (arith, q, wide))
