-- A window of spans that is made again: the spans around it stay, and have what they had.
use Rattle.std.proofs.Common.{◌≡◌, ◌⊎◌, inl, inr, ℕ, zero, suc, ◌+◌, ◌-◌, ◌^◌, ◌≤◌, ◌<◌, List, [], ◌∷◌, ◌++◌, length, map, take, drop, refl, sym, ap, ◌∙◌, subst, arith, append_assoc, length-append}
use Rattle.std.specs.Prelude.{slice_range}
use Rattle.std.specs.List.{All}
use Rattle.std.specs.List.Sorted.{IsPermutation}
use Rattle.std.proofs.lemmas.Bool.{cases_lt}
use Rattle.std.proofs.lemmas.List.{map-append, take_all, take-append-drop, drop-drop, length-take-le, length-drop}
use Rattle.std.proofs.lemmas.List.Elements.{All-append, All-weaker, All-nil, All-head, All-tail, All-same}
use Rattle.std.proofs.lemmas.List.Sorted.{IsPermutation-map, IsPermutation-append_left, IsPermutation-append_right, IsPermutation-trans}
use Rattle.sum_tree.specs.Spliced.{splice_list}
use Rattle.fold_spans.specs.Marks.{Range, Mark, marks}
use Rattle.fold_spans.specs.Spans.{span_len, marks_of, text_sum, shown_sum, folds_of, AreSpans}
use Rattle.fold_spans.specs.Found.{start_of, IsTouching}
use Rattle.fold_spans.specs.Sweep.{range_of, number_of, BelongsTo, HaveInOrder, HaveFolds}
use Rattle.fold_spans.specs.Laws.{In, IsApart}
use Rattle.fold_spans.specs.declared.span.Span.{Span}
use Rattle.fold_spans.specs.declared.span.Span.TheVariants.{Open, Fold, Waiting}
use Rattle.fold_spans.specs.declared.sweep.FoldRange.{FoldRange}
use Rattle.fold_spans.specs.declared.touching.Touching.{Touching}
use Rattle.fold_spans.proofs.Local.{marks_are_local}
use Rattle.fold_spans.proofs.Kept.{marks_split}
use Rattle.fold_spans.proofs.Homes.{marks_in_any_order}
use Rattle.fold_spans.proofs.BySpan.{length_marks_of, marks_of-append}
use Rattle.fold_spans.proofs.Sums.{text_sum-append, text_sum-splice, take_sum}
use Rattle.fold_spans.proofs.Thrice.{shown_at_most_thrice}
use Rattle.fold_map.proofs.ShownParts.{length_marks}

-- ---- spans in order, in two parts

pub have_split : (p : ℕ) (us ws : List Span) (rs : List FoldRange) → HaveInOrder p (us ++ ws) rs → (xs : List FoldRange) × (ys : List FoldRange) × (rs ≡ xs ++ ys) × HaveInOrder p us xs × HaveInOrder (p + text_sum us) ws ys
have_split p [] ws rs h = let e : p ≡ p + 0 = omega arith in ([], rs, refl, refl, subst (λ (n : ℕ). HaveInOrder n ws rs) e h)
have_split p (s ∷ us) ws rs h =
    let w = have_split (p + span_len s) us ws h.1 h.5 in
    let e : p + span_len s + text_sum us ≡ p + (span_len s + text_sum us) = omega arith in
    (h.0 ++ w.0, w.1, h.2 ∙ ap (λ (l : List FoldRange). h.0 ++ l) w.2 ∙ sym (append_assoc h.0 w.0 w.1), (h.0, w.0, refl, h.3, h.4, w.3), subst (λ (n : ℕ). HaveInOrder n ws w.1) e w.4)

pub have_join : (p : ℕ) (us ws : List Span) (xs ys : List FoldRange) → HaveInOrder p us xs → HaveInOrder (p + text_sum us) ws ys → HaveInOrder p (us ++ ws) (xs ++ ys)
have_join p [] ws xs ys h k = let e : p + 0 ≡ p = omega arith in subst (λ (l : List FoldRange). HaveInOrder p ws (l ++ ys)) (sym h) (subst (λ (n : ℕ). HaveInOrder n ws ys) e k)
have_join p (s ∷ us) ws xs ys h k =
    let e : p + (span_len s + text_sum us) ≡ p + span_len s + text_sum us = omega arith in
    (h.0, h.1 ++ ys, ap (λ (l : List FoldRange). l ++ ys) h.2 ∙ append_assoc h.0 h.1 ys, h.3, h.4, have_join (p + span_len s) us ws h.1 ys h.5 (subst (λ (n : ℕ). HaveInOrder n ws ys) e k))

-- the numbers that spans have are those of their ranges
pub have_numbers : (p : ℕ) (ss : List Span) (rs : List FoldRange) → HaveInOrder p ss rs → folds_of ss ≡ map number_of rs
have_numbers p [] rs h = sym (ap (map number_of) h)
have_numbers p (s ∷ ss) rs h =
    ap (λ (l : List ℕ). l ++ folds_of ss) h.3 ∙ ap (λ (l : List ℕ). map number_of h.0 ++ l) (have_numbers (p + span_len s) ss h.1 h.5)
    ∙ sym (ap (map number_of) h.2 ∙ map-append number_of h.0 h.1)

-- a range lies from p to q
pub record LiesIn (p q : ℕ) (r : FoldRange) : Type 0 where
  pub start : p ≤ r.start
  pub end : r.end ≤ q

lies_here : (p : ℕ) (s : Span) (q : ℕ) → p + span_len s ≤ q → (r : FoldRange) → BelongsTo p s r → LiesIn p q r
lies_here p (Open n) q l r b = absurd b
lies_here p (Fold n fs) q l r b = let u = b.0 in let v = b.1 in record { start = u; end = omega arith }
lies_here p (Waiting fs) q l r b = let u = b.0 in let v = b.1 in record { start = omega arith; end = omega arith }

pub have_within : (p : ℕ) (ss : List Span) (rs : List FoldRange) → HaveInOrder p ss rs → All (LiesIn p (p + text_sum ss)) rs
have_within p [] rs h = All-same (LiesIn p (p + 0)) rs [] h (All-nil (LiesIn p (p + 0)))
have_within p (s ∷ ss) rs h =
    let q : ℕ = p + (span_len s + text_sum ss) in
    All-same (LiesIn p q) rs (h.0 ++ h.1) h.2 (All-append (LiesIn p q) h.0 h.1
    (All-weaker (BelongsTo p s) (LiesIn p q) (lies_here p s q (omega arith)) h.0 h.4)
    (All-weaker (LiesIn (p + span_len s) (p + span_len s + text_sum ss)) (LiesIn p q) (λ r w. (let u = w.start in let v = w.end in record { start = omega arith; end = omega arith })) h.1 (have_within (p + span_len s) ss h.1 h.5)))

-- ---- ranges in three parts

in_left : (r : Range) (xs ys : List Range) → In r xs → In r (xs ++ ys)
in_left r [] ys i = absurd i
in_left r (x ∷ xs) ys (inl e) = inl e
in_left r (x ∷ xs) ys (inr i) = inr (in_left r xs ys i)

in_right : (r : Range) (xs ys : List Range) → In r ys → In r (xs ++ ys)
in_right r [] ys i = i
in_right r (x ∷ xs) ys i = inr (in_right r xs ys i)

in_parts : (r : Range) (xs ys : List Range) → In r (xs ++ ys) → In r xs ⊎ In r ys
in_parts r [] ys i = inr i
in_parts r (x ∷ xs) ys (inl e) = inl (inl e)
in_parts r (x ∷ xs) ys (inr i) = elim (in_parts r xs ys i) [ inl j ↦ inl (inr j) | inr j ↦ inr j ]

lies : (p q : ℕ) (rs : List FoldRange) → All (LiesIn p q) rs → (r : Range) → In r (map range_of rs) → (p ≤ r.0) × (r.1 ≤ q)
lies p q [] a r i = absurd i
lies p q (x ∷ rs) a r (inl e) =
    let w = All-head (LiesIn p q) x rs a in
    let u = w.start in
    let v = w.end in
    let f = ap (λ (y : Range). y.0) e in
    let g = ap (λ (y : Range). y.1) e in (omega arith, omega arith)
lies p q (x ∷ rs) a r (inr i) = lies p q rs (All-tail (LiesIn p q) x rs a) r i

abbrev three : List FoldRange → List FoldRange → List FoldRange → List Range
three xs vs zs = map range_of xs ++ (map range_of vs ++ map range_of zs)

pub three_are : (xs vs zs : List FoldRange) → map range_of (xs ++ (vs ++ zs)) ≡ map range_of xs ++ (map range_of vs ++ map range_of zs)
three_are xs vs zs = map-append range_of xs (vs ++ zs) ∙ ap (λ (l : List Range). map range_of xs ++ l) (map-append range_of vs zs)

-- xs lie up to a, vs from a to b, and zs from b on
module _ (xs vs zs : List FoldRange) (a b n : ℕ) (l : a ≤ b) (m : b ≤ n) (x : All (LiesIn 0 a) xs) (v : All (LiesIn a b) vs) (z : All (LiesIn b n) zs) where
  abbrev all : List Range
  all = map range_of xs ++ (map range_of vs ++ map range_of zs)

  before : marks all 0 a ≡ marks (map range_of xs) 0 a
  before = marks_are_local all (map range_of xs) 0 a (record { some = λ r i. in_left r (map range_of xs) (map range_of vs ++ map range_of zs) i; others = others })
    where
      others : (r : Range) → In r all → In r (map range_of xs) ⊎ IsApart 0 a r
      others r i = elim (in_parts r (map range_of xs) (map range_of vs ++ map range_of zs) i) [
        | inl j ↦ inl j
        | inr j ↦ elim (in_parts r (map range_of vs) (map range_of zs) j) [
          | inl k ↦ let w = lies a b vs v r k in let p = w.0 in inr (inr (omega arith))
          | inr k ↦ let w = lies b n zs z r k in let p = w.0 in inr (inr (omega arith))
        ]
      ]

  pub within : marks all a (b - a) ≡ marks (map range_of vs) a (b - a)
  within = marks_are_local all (map range_of vs) a (b - a) (record { some = λ r i. in_right r (map range_of xs) (map range_of vs ++ map range_of zs) (in_left r (map range_of vs) (map range_of zs) i); others = others })
    where
      others : (r : Range) → In r all → In r (map range_of vs) ⊎ IsApart a (b - a) r
      others r i = elim (in_parts r (map range_of xs) (map range_of vs ++ map range_of zs) i) [
        | inl j ↦ let w = lies 0 a xs x r j in let p = w.1 in inr (inl (omega arith))
        | inr j ↦ elim (in_parts r (map range_of vs) (map range_of zs) j) [
          | inl k ↦ inl k
          | inr k ↦ let w = lies b n zs z r k in let p = w.0 in inr (inr (omega arith))
        ]
      ]

  after : marks all b (n - b) ≡ marks (map range_of zs) b (n - b)
  after = marks_are_local all (map range_of zs) b (n - b) (record { some = λ r i. in_right r (map range_of xs) (map range_of vs ++ map range_of zs) (in_right r (map range_of vs) (map range_of zs) i); others = others })
    where
      others : (r : Range) → In r all → In r (map range_of zs) ⊎ IsApart b (n - b) r
      others r i = elim (in_parts r (map range_of xs) (map range_of vs ++ map range_of zs) i) [
        | inl j ↦ let w = lies 0 a xs x r j in let p = w.1 in inr (inl (omega arith))
        | inr j ↦ elim (in_parts r (map range_of vs) (map range_of zs) j) [
          | inl k ↦ let w = lies a b vs v r k in let p = w.1 in inr (inl (omega arith))
          | inr k ↦ inl k
        ]
      ]

  -- the marks of all are those of each part in its place
  pub marks_by_parts : marks all 0 n ≡ marks (map range_of xs) 0 a ++ (marks (map range_of vs) a (b - a) ++ marks (map range_of zs) b (n - b))
  marks_by_parts =
      let e : n ≡ a + (n - a) = omega arith in
      let f : n - a ≡ (b - a) + (n - b) = omega arith in
      ap (λ (k : ℕ). marks all 0 k) e ∙ marks_split all a 0 (n - a) a (omega arith)
      ∙ ap (λ (k : ℕ). marks all 0 a ++ marks all a k) f
      ∙ ap (λ (ms : List Mark). marks all 0 a ++ ms) (marks_split all (b - a) a (n - b) b (omega arith))
      ∙ ap (λ (ms : List Mark). ms ++ (marks all a (b - a) ++ marks all b (n - b))) before
      ∙ ap (λ (ms : List Mark). marks (map range_of xs) 0 a ++ (ms ++ marks all b (n - b))) within
      ∙ ap (λ (ms : List Mark). marks (map range_of xs) 0 a ++ (marks (map range_of vs) a (b - a) ++ ms)) after

-- two lists that are one, cut at one place
pub cut_same : (xs us ys vs : List Mark) → length xs ≡ length us → xs ++ ys ≡ us ++ vs → (xs ≡ us) × (ys ≡ vs)
cut_same [] [] ys vs l e = (refl, e)
cut_same [] (u ∷ us) ys vs l e = absurd (omega (arith, l))
cut_same (x ∷ xs) [] ys vs l e = absurd (omega (arith, l))
cut_same (x ∷ xs) (u ∷ us) ys vs l e = let w = cut_same xs us ys vs (omega (arith, l)) (cc) in let f : x ≡ u = cc in (ap (λ (m : Mark). m ∷ xs) f ∙ ap (λ (ms : List Mark). u ∷ ms) w.0, w.1)

zero_and : (k : ℕ) → k ≡ 0 + k
zero_and k = omega arith

-- ---- a window made again

-- spans of n bytes have the marks of ranges, and their numbers
pub record Stand (ss : List Span) (rs : List FoldRange) (n : ℕ) : Type 0 where
  pub marks : marks_of ss ≡ marks (map range_of rs) 0 n
  pub homes : HaveFolds 0 ss rs

module _ (X W Z : List Span) (rs : List FoldRange) (n : ℕ) (s : Stand (X ++ (W ++ Z)) rs n) where
  abbrev pub first : (xs : List FoldRange) × (ys : List FoldRange) × (s.homes.0 ≡ xs ++ ys) × HaveInOrder 0 X xs × HaveInOrder (0 + text_sum X) (W ++ Z) ys
  first = have_split 0 X (W ++ Z) s.homes.0 s.homes.2

  abbrev pub second : (ws : List FoldRange) × (zs : List FoldRange) × (first.1 ≡ ws ++ zs) × HaveInOrder (0 + text_sum X) W ws × HaveInOrder (0 + text_sum X + text_sum W) Z zs
  second = have_split (0 + text_sum X) W Z first.1 first.4

  -- the ranges in the window
  abbrev pub inside : List FoldRange
  inside = second.0

  abbrev pub before_it : List FoldRange
  before_it = first.0

  abbrev pub after_it : List FoldRange
  after_it = second.1

  pub all_of_them : IsPermutation rs (before_it ++ (inside ++ after_it))
  all_of_them = subst (IsPermutation rs) (first.2 ∙ ap (λ (l : List FoldRange). first.0 ++ l) second.2) s.homes.1

  pub inside_numbers : folds_of W ≡ map number_of inside
  inside_numbers = have_numbers (0 + text_sum X) W inside second.3

  pub whole : text_sum X + (text_sum W + text_sum Z) ≡ n
  whole =
      let u = text_sum-append X (W ++ Z) in
      let v = text_sum-append W Z in
      let w = length_marks_of (X ++ (W ++ Z)) in
      let x = ap length s.marks in
      let y = length_marks (map range_of rs) 0 n in omega arith

  wider : (p q k l : ℕ) (xs : List FoldRange) → k ≤ p → q ≤ l → All (LiesIn p q) xs → All (LiesIn k l) xs
  wider p q k l xs u v a = All-weaker (LiesIn p q) (LiesIn k l) (λ r w. record { start = (let x = w.start in omega (arith, x, u)); end = (let x = w.end in omega (arith, x, v)) }) xs a

  pub lie_before : All (LiesIn 0 (text_sum X)) before_it
  lie_before = wider 0 (0 + text_sum X) 0 (text_sum X) before_it (omega arith) (omega arith) (have_within 0 X before_it first.3)

  pub lie_after : All (LiesIn (text_sum X + text_sum W) n) after_it
  lie_after = let w = whole in
      wider (0 + text_sum X + text_sum W) (0 + text_sum X + text_sum W + text_sum Z) (text_sum X + text_sum W) n after_it (omega arith) (omega (arith, w)) (have_within (0 + text_sum X + text_sum W) Z after_it second.4)

  pub lie_inside : All (LiesIn (text_sum X) (text_sum X + text_sum W)) inside
  lie_inside = wider (0 + text_sum X) (0 + text_sum X + text_sum W) (text_sum X) (text_sum X + text_sum W) inside (omega arith) (omega arith) (have_within (0 + text_sum X) W inside second.3)

  -- vs are the ranges of the window from now on, `list` the spans that are made from them, and qs all ranges
  module _ (vs qs : List FoldRange) (list : List Span) (within_it : All (LiesIn (text_sum X) (text_sum X + text_sum W)) vs)
      (made : marks_of list ≡ marks (map range_of vs) (text_sum X) (text_sum W)) (have : HaveFolds (text_sum X) list vs) (long : text_sum list ≡ text_sum W)
      (p : IsPermutation qs (before_it ++ (vs ++ after_it))) where
    abbrev before_marks : List Mark
    before_marks = marks (map range_of before_it) 0 (text_sum X)

    abbrev after_marks : List Mark
    after_marks = marks (map range_of after_it) (text_sum X + text_sum W) (n - (text_sum X + text_sum W))

    parts_now : marks_of X ++ (marks_of W ++ marks_of Z) ≡ before_marks ++ (marks (map range_of inside) (text_sum X) (text_sum X + text_sum W - text_sum X) ++ after_marks)
    parts_now =
        let w = whole in
        sym (marks_of-append X (W ++ Z) ∙ ap (λ (ms : List Mark). marks_of X ++ ms) (marks_of-append W Z)) ∙ s.marks
        ∙ marks_in_any_order (map range_of rs) (map range_of (before_it ++ (inside ++ after_it))) 0 n (IsPermutation-map range_of rs (before_it ++ (inside ++ after_it)) all_of_them)
        ∙ ap (λ (xs : List Range). marks xs 0 n) (three_are before_it inside after_it)
        ∙ marks_by_parts before_it inside after_it (text_sum X) (text_sum X + text_sum W) n (omega arith) (omega arith) lie_before lie_inside lie_after

    cut_first : (marks_of X ≡ before_marks) × (marks_of W ++ marks_of Z ≡ marks (map range_of inside) (text_sum X) (text_sum X + text_sum W - text_sum X) ++ after_marks)
    cut_first = cut_same (marks_of X) before_marks (marks_of W ++ marks_of Z) (marks (map range_of inside) (text_sum X) (text_sum X + text_sum W - text_sum X) ++ after_marks) (length_marks_of X ∙ sym (length_marks (map range_of before_it) 0 (text_sum X))) parts_now

    cut_second : (marks_of W ≡ marks (map range_of inside) (text_sum X) (text_sum X + text_sum W - text_sum X)) × (marks_of Z ≡ after_marks)
    cut_second =
        let e : text_sum W ≡ text_sum X + text_sum W - text_sum X = omega arith in
        cut_same (marks_of W) (marks (map range_of inside) (text_sum X) (text_sum X + text_sum W - text_sum X)) (marks_of Z) after_marks (length_marks_of W ∙ e ∙ sym (length_marks (map range_of inside) (text_sum X) (text_sum X + text_sum W - text_sum X))) cut_first.1

    pub window_made : Stand (X ++ (list ++ Z)) qs n
    window_made =
        let w = whole in
        let e : text_sum W ≡ text_sum X + text_sum W - text_sum X = omega arith in
        record {
          marks = marks_of-append X (list ++ Z) ∙ ap (λ (ms : List Mark). marks_of X ++ ms) (marks_of-append list Z)
              ∙ ap (λ (ms : List Mark). ms ++ (marks_of list ++ marks_of Z)) cut_first.0
              ∙ ap (λ (ms : List Mark). before_marks ++ (ms ++ marks_of Z)) (made ∙ ap (λ (k : ℕ). marks (map range_of vs) (text_sum X) k) e)
              ∙ ap (λ (ms : List Mark). before_marks ++ (marks (map range_of vs) (text_sum X) (text_sum X + text_sum W - text_sum X) ++ ms)) cut_second.1
              ∙ sym (marks_by_parts before_it vs after_it (text_sum X) (text_sum X + text_sum W) n (omega arith) (omega arith) lie_before within_it lie_after)
              ∙ sym (ap (λ (xs : List Range). marks xs 0 n) (three_are before_it vs after_it))
              ∙ sym (marks_in_any_order (map range_of qs) (map range_of (before_it ++ (vs ++ after_it))) 0 n (IsPermutation-map range_of qs (before_it ++ (vs ++ after_it)) p));
          homes = (
            before_it ++ (have.0 ++ after_it),
            IsPermutation-trans qs (before_it ++ (vs ++ after_it)) (before_it ++ (have.0 ++ after_it)) p
                (IsPermutation-append_right before_it (vs ++ after_it) (have.0 ++ after_it) (IsPermutation-append_left after_it vs have.0 have.1)),
            have_join 0 X (list ++ Z) before_it (have.0 ++ after_it) first.3
                (have_join (0 + text_sum X) list Z have.0 after_it (subst (λ (k : ℕ). HaveInOrder k list have.0) (zero_and (text_sum X)) have.2)
                (let f : 0 + text_sum X + text_sum W ≡ 0 + text_sum X + text_sum list = omega arith in subst (λ (k : ℕ). HaveInOrder k Z after_it) f second.4)),
          );
        }

-- ---- a run of spans by its indexes

module _ (ss : List Span) (i j : ℕ) (o : i ≤ j) (w : j ≤ length ss) where
  pub parts : ss ≡ take i ss ++ (slice_range ss i j ++ drop j ss)
  parts =
      let e : i + (j - i) ≡ j = omega (arith, o) in
      sym (take-append-drop i ss)
      ∙ ap (λ (ts : List Span). take i ss ++ ts) (sym (take-append-drop (j - i) (drop i ss)))
      ∙ ap (λ (ts : List Span). take i ss ++ (take (j - i) (drop i ss) ++ ts)) (drop-drop (j - i) i ss ∙ ap (λ (k : ℕ). drop k ss) e)

  pub run_end : text_sum (take i ss) + text_sum (slice_range ss i j) ≡ start_of ss j
  run_end =
      let a = ap text_sum parts in
      let b = text_sum-append (take i ss) (slice_range ss i j ++ drop j ss) in
      let c = text_sum-append (slice_range ss i j) (drop j ss) in
      let d = ap text_sum (take-append-drop j ss) in
      let e = text_sum-append (take j ss) (drop j ss) in
      omega (arith, a, b, c, d, e)

  module _ (list : List Span) where
    pub spliced : splice_list i j list ss ≡ take i ss ++ (list ++ drop j ss)
    spliced = append_assoc (take i ss) list (drop j ss)

    spliced_length : length (splice_list i j list ss) ≡ i + (length list + (length ss - j))
    spliced_length =
        let a = ap length spliced in
        let b = length-append (take i ss) (list ++ drop j ss) in
        let c = length-append list (drop j ss) in
        let d = length-take-le i ss (omega (arith, o, w)) in
        let e = length-drop j ss in
        omega (arith, a, b, c, d, e)

    pub spliced_short : length list ≤ 2 ^ 40 - (length ss - (j - i)) → length ss ≤ 2 ^ 40 → length (splice_list i j list ss) ≤ 2 ^ 40
    spliced_short l m = let a = spliced_length in omega (arith, a, l, m, o, w)

    spliced_text : text_sum (splice_list i j list ss) ≤ text_sum ss + text_sum list
    spliced_text = text_sum-splice i j list ss o

    pub text_fits : (n : ℕ) → text_sum list ≡ n → text_sum ss + n ≤ 2 ^ 42 → text_sum (splice_list i j list ss) < 2 ^ 64
    text_fits n e l = let a = spliced_text in omega (arith, a, e, l)

    pub shown_fits : (n : ℕ) → text_sum list ≡ n → text_sum ss + n ≤ 2 ^ 42 → AreSpans (splice_list i j list ss) → shown_sum (splice_list i j list ss) < 2 ^ 64
    shown_fits n e l p = let a = spliced_text in let b = shown_at_most_thrice (splice_list i j list ss) p in omega (arith, a, b, e, l)

-- ---- where a run begins and ends

touch_start : (ss : List Span) (s e : ℕ) (t : Touching) (i : IsTouching ss s e t) (n : ℕ) → t.from ≡ n → t.start ≤ s
touch_start ss s e t i zero z = let a = i.start in let b : start_of ss t.from ≡ 0 = ap (start_of ss) z in omega (arith, a, b)
touch_start ss s e t i (suc k) z = let a = i.start in let b = ap (start_of ss) z in let c = i.before k (omega (arith, z)) in omega (arith, a, b, c)

pub starts_before : (ss : List Span) (s e : ℕ) (t : Touching) → IsTouching ss s e t → t.start ≤ s
starts_before ss s e t i = touch_start ss s e t i t.from refl

pub ends_past : (ss : List Span) (s e : ℕ) (t : Touching) → IsTouching ss s e t → e ≤ text_sum ss → e ≤ t.end
ends_past ss s e t i l = elim (cases_lt t.to (length ss)) [
  | inl m ↦ let a = i.after t.to (omega arith) m in let b = i.end in omega (arith, a, b)
  | inr m ↦ let a = i.end in let b : start_of ss t.to ≡ text_sum ss = ap text_sum (take_all t.to ss m) in omega (arith, a, b, l)
]

pub run_order : (ss : List Span) (s e : ℕ) (t : Touching) → IsTouching ss s e t → t.start ≤ t.end
run_order ss s e t i = let a = take_sum ss t.from t.to i.order in let b = i.start in let c = i.end in omega (arith, a, b, c)

pub run_short : (ss : List Span) (s e : ℕ) (t : Touching) → IsTouching ss s e t → t.end ≤ text_sum ss
run_short ss s e t i =
    let a = ap text_sum (take-append-drop t.to ss) in
    let b = text_sum-append (take t.to ss) (drop t.to ss) in
    let c = i.end in omega (arith, a, b, c)

strictly_before : (ss : List Span) (s e : ℕ) (t : Touching) (i : IsTouching ss s e t) (n : ℕ) → t.from ≡ n → 0 < t.start → t.start < s
strictly_before ss s e t i zero z l = let a = i.start in let b : start_of ss t.from ≡ 0 = ap (start_of ss) z in absurd (omega (arith, a, b, l))
strictly_before ss s e t i (suc k) z l = let a = i.start in let b = ap (start_of ss) z in let c = i.before k (omega (arith, z)) in omega (arith, a, b, c)

pub starts_strictly : (ss : List Span) (s e : ℕ) (t : Touching) → IsTouching ss s e t → 0 < t.start → t.start < s
starts_strictly ss s e t i l = strictly_before ss s e t i t.from refl l

pub ends_strictly : (ss : List Span) (s e : ℕ) (t : Touching) → IsTouching ss s e t → t.end < text_sum ss → e < t.end
ends_strictly ss s e t i l = elim (cases_lt t.to (length ss)) [
  | inl m ↦ let a = i.after t.to (omega arith) m in let b = i.end in omega (arith, a, b)
  | inr m ↦ let a = i.end in let b : start_of ss t.to ≡ text_sum ss = ap text_sum (take_all t.to ss m) in absurd (omega (arith, a, b, l))
]
