-- Folds that are made and taken out, where the spans of one window are made again.
use Rattle.std.proofs.Common.{◌≡◌, ℕ, ◌+◌, ◌-◌, ◌≤◌, ◌^◌, Bool, false, not, nat_cmp, List, [], ◌∷◌, ◌++◌, length, map, take, drop, refl, sym, ap, ◌∙◌, subst, arith, append_assoc}
use Rattle.std.specs.Prelude.{slice_range}
use Rattle.std.specs.List.{All, filter}
use Rattle.std.specs.List.Sorted.{IsPermutation, IsSortedBy}
use Rattle.std.specs.Ordering.{is_lt}
use Rattle.std.proofs.lemmas.List.{map-append}
use Rattle.std.proofs.lemmas.List.Elements.{All-nil, All-weaker, All-push, All-filter, All-same, filter-append}
use Rattle.std.proofs.lemmas.List.Sorted.{IsPermutation-refl, IsPermutation-append_left, IsPermutation-append_right, IsPermutation-append_comm, IsPermutation-trans, All-permutation}
use Rattle.sum_tree.specs.Keyed.{item_of_key}
use Rattle.op_model.specs.Histories.{History}
use Rattle.op_model.specs.Anchors.{place}
use Rattle.op_model.specs.Shown.{text}
use Rattle.text_buffer.specs.Document.{IsBufferHistory}
use Rattle.fold_spans.specs.Marks.{Range, marks}
use Rattle.fold_spans.specs.Spans.{marks_of, text_sum, folds_of, some_open}
use Rattle.fold_spans.specs.Found.{IsTouching}
use Rattle.fold_spans.specs.Sweep.{range_of, HaveFolds, IsWithin as IsRangeWithin, number_of as range_number}
use Rattle.fold_spans.specs.declared.span.Span.{Span}
use Rattle.fold_spans.specs.declared.sweep.FoldRange.{FoldRange}
use Rattle.fold_spans.specs.declared.touching.Touching.{Touching}
use Rattle.fold_spans.proofs.Homes.{sorted_cmp, made_marks, made_folds}
use Rattle.fold_map.specs.declared.fold.NumberedFold.{NumberedFold}
use Rattle.fold_map.specs.Folds.{ranges}
use Rattle.fold_map.specs.Numbered.{number_of, folds_of as plain_folds, AreNumbered, AreFolds, AreSpansOf, numbered_range, numbered_ranges, range_shares, fold_shares}
use Rattle.fold_map.specs.Windows.{found_range, named_ranges, without_each, IsMadeAgain}
use Rattle.fold_map.proofs.Followed.{ranges_within, ranges_same}
use Rattle.fold_map.proofs.ShownParts.{length_spans}
use Rattle.fold_map.proofs.Moved.{left_part, right_part, equal_ranges}
use Rattle.fold_map.proofs.Permuted.{filter_permutation}
use Rattle.fold_map.proofs.Named.{all_named, named_are, taken_by_window, ends_before, begins_after, ranges_filter, filter_apart}
use Rattle.fold_map.proofs.Runs.{Stand, LiesIn, inside, before_it, after_it, all_of_them, inside_numbers, lie_before, lie_inside, lie_after, window_made, parts, run_end, spliced, starts_before, ends_past, run_short}

-- ---- parts of lists

more_by_one : (rs b i a : List FoldRange) (r : FoldRange) → IsPermutation rs (b ++ (i ++ a)) → IsPermutation (rs ++ r ∷ []) (b ++ ((i ++ r ∷ []) ++ a))
more_by_one rs b i a r p =
    let last : (b ++ (i ++ a)) ++ r ∷ [] ≡ b ++ (i ++ (a ++ r ∷ [])) = append_assoc b (i ++ a) (r ∷ []) ∙ ap (λ (l : List FoldRange). b ++ l) (append_assoc i a (r ∷ [])) in
    let moved : IsPermutation (b ++ (i ++ (a ++ r ∷ []))) (b ++ (i ++ (r ∷ a))) = IsPermutation-append_right b (i ++ (a ++ r ∷ [])) (i ++ (r ∷ a)) (IsPermutation-append_right i (a ++ r ∷ []) (r ∷ a) (IsPermutation-append_comm a (r ∷ []))) in
    let first : IsPermutation (rs ++ r ∷ []) (b ++ (i ++ (a ++ r ∷ []))) = subst (IsPermutation (rs ++ r ∷ [])) last (IsPermutation-append_left (r ∷ []) rs (b ++ (i ++ a)) p) in
    subst (IsPermutation (rs ++ r ∷ [])) (ap (λ (l : List FoldRange). b ++ l) (sym (append_assoc i (r ∷ []) a)))
    (IsPermutation-trans (rs ++ r ∷ []) (b ++ (i ++ (a ++ r ∷ []))) (b ++ (i ++ (r ∷ a))) first moved)

-- ---- a window of a map's spans

module _ (h : History) (b : IsBufferHistory h) (fs : List NumberedFold) (a : AreFolds h fs) (ss : List Span) (sp : AreSpansOf h fs ss)
    (t : Touching) (s0 e0 : ℕ) (i : IsTouching ss s0 e0 t) where
  abbrev pub len : ℕ
  len = length (text h)

  abbrev pub X : List Span
  X = take t.from ss

  abbrev pub W : List Span
  W = slice_range ss t.from t.to

  abbrev pub Z : List Span
  Z = drop t.to ss

  pub stand : Stand (X ++ (W ++ Z)) (numbered_ranges h fs) len
  stand = subst (λ (xs : List Span). Stand xs (numbered_ranges h fs) len) (parts ss t.from t.to i.order i.within)
      (record { marks = sp.marks ∙ ap (λ (qs : List Range). marks qs 0 len) (sym (ranges_same h fs)); homes = sp.homes })

  abbrev pub ins : List FoldRange
  ins = inside X W Z (numbered_ranges h fs) len stand

  abbrev pub bef : List FoldRange
  bef = before_it X W Z (numbered_ranges h fs) len stand

  abbrev pub aft : List FoldRange
  aft = after_it X W Z (numbered_ranges h fs) len stand

  pub all_here : IsPermutation (numbered_ranges h fs) (bef ++ (ins ++ aft))
  all_here = all_of_them X W Z (numbered_ranges h fs) len stand

  of_inside : (P : FoldRange → Type 0) → All P (numbered_ranges h fs) → All P ins
  of_inside P p = left_part P ins aft (right_part P bef (ins ++ aft) (All-permutation P (numbered_ranges h fs) (bef ++ (ins ++ aft)) all_here p))

  pub named : (n : ℕ) → AreNumbered n fs → named_ranges h fs (folds_of W) ≡ ins
  named n k = ap (named_ranges h fs) (inside_numbers X W Z (numbered_ranges h fs) len stand)
      ∙ named_are h fs ins (of_inside (λ r. found_range h (item_of_key nat_cmp number_of (range_number r) fs) ≡ r ∷ []) (all_named h fs k.ascending))

  pub inside_within : All (IsRangeWithin t.start t.end) ins
  inside_within =
      let o : All (IsRangeWithin 0 len) ins = of_inside (IsRangeWithin 0 len) (ranges_within h b.lawful b.proper fs a) in
      let w = lie_inside X W Z (numbered_ranges h fs) len stand in
      let f = run_end ss t.from t.to i.order i.within in
      let st = i.start in
      let en = i.end in
      λ j d l. (let u = o j d l in let v = w j d l in record { start = (let x = v.start in omega (arith, x, st)); order = u.order; end = (let x = v.end in omega (arith, x, f, en)) })

  pub spans_short : text_sum ss + (t.end - t.start) ≤ 2 ^ 42
  spans_short =
      let n = length_spans ss (ranges h (plain_folds fs)) len sp.marks in
      let m = b.bytes in
      let k = b.text_bytes in
      let e = run_short ss s0 e0 t i in omega (arith, n, m, k, e)

  -- the window is made again from other ranges
  pub made_stands : (vs : List FoldRange) (gs : List NumberedFold) (new : List Span) → All (IsRangeWithin t.start t.end) vs → IsMadeAgain t vs ss new → IsPermutation (numbered_ranges h gs) (bef ++ (vs ++ aft)) → AreSpansOf h gs new
  made_stands vs gs new v m p =
      let st : t.start ≡ text_sum X = i.start in
      let f = run_end ss t.from t.to i.order i.within in
      let en = i.end in
      let wide : t.end - t.start ≡ text_sum W = omega (arith, st, f, en) in
      let lies : All (LiesIn (text_sum X) (text_sum X + text_sum W)) vs = All-weaker (IsRangeWithin t.start t.end) (LiesIn (text_sum X) (text_sum X + text_sum W))
      (λ r u. record { start = (let x = u.start in omega (arith, x, st)); end = (let x = u.end in omega (arith, x, f, en)) }) vs v in
      let made : marks_of m.list ≡ marks (map range_of vs) (text_sum X) (text_sum W) = m.marks ∙ ap (λ (k : ℕ). marks (map range_of vs) k (t.end - t.start)) st ∙ ap (λ (k : ℕ). marks (map range_of vs) (text_sum X) k) wide in
      let w = window_made X W Z (numbered_ranges h fs) len stand vs (numbered_ranges h gs) m.list lies made (subst (λ (k : ℕ). HaveFolds k m.list vs) st m.folds) (m.len ∙ wide) p in
      subst (AreSpansOf h gs) (sym (m.spans ∙ spliced ss t.from t.to i.order i.within m.list))
      (record { marks = w.marks ∙ ap (λ (qs : List Range). marks qs 0 len) (ranges_same h gs); homes = w.homes })

  -- one fold more, whose range s..e lies in the window
  module _ (s e : ℕ) (x : NumberedFold) (p : (place h x.fold.start ≡ s) × (place h x.fold.end ≡ e)) (o : s ≤ e) (l : t.start ≤ s) (m : e ≤ t.end) (n : ℕ) (k : AreNumbered n fs) (rs : List FoldRange)
      (q : rs ≡ named_ranges h fs (folds_of W) ++ record { start = s; end = e; number = x.number } ∷ []) where
    abbrev r : FoldRange
    r = record { start = s; end = e; number = x.number }

    its_range : r ≡ numbered_range h x
    its_range = equal_ranges r (numbered_range h x) (sym p.0) (sym p.1) refl

    with_it : rs ≡ ins ++ r ∷ []
    with_it = q ∙ ap (λ (qs : List FoldRange). qs ++ r ∷ []) (named n k)

    all_within : All (IsRangeWithin t.start t.end) (ins ++ r ∷ [])
    all_within = All-push (IsRangeWithin t.start t.end) ins r inside_within (record { start = l; order = o; end = m })

    pub fold_within : All (IsRangeWithin t.start t.end) rs
    fold_within = All-same (IsRangeWithin t.start t.end) rs (ins ++ r ∷ []) with_it all_within

    pub with_fold : (new : List Span) → IsMadeAgain t rs ss new → AreSpansOf h (fs ++ x ∷ []) new
    with_fold new made =
        made_stands (ins ++ r ∷ []) (fs ++ x ∷ []) new all_within (subst (λ (qs : List FoldRange). IsMadeAgain t qs ss new) with_it made)
        (subst (λ (qs : List FoldRange). IsPermutation qs (bef ++ ((ins ++ r ∷ []) ++ aft)))
        (ap (λ (y : FoldRange). numbered_ranges h fs ++ y ∷ []) its_range ∙ sym (map-append (numbered_range h) fs (x ∷ [])))
        (more_by_one (numbered_ranges h fs) bef ins aft r all_here))

  -- without those that share a byte with s..e, which lies in the window
  module _ (s e : ℕ) (l : t.start ≤ s) (m : e ≤ t.end) where
    before_apart : All (λ r. range_shares s e r ≡ false) bef
    before_apart =
        let st = i.start in
        All-weaker (LiesIn 0 (text_sum X)) (λ r. range_shares s e r ≡ false) (λ r u. ends_before s e r (let x = u.end in omega (arith, x, st, l))) bef (lie_before X W Z (numbered_ranges h fs) len stand)

    after_apart : All (λ r. range_shares s e r ≡ false) aft
    after_apart =
        let f = run_end ss t.from t.to i.order i.within in
        let en = i.end in
        All-weaker (LiesIn (text_sum X + text_sum W) len) (λ r. range_shares s e r ≡ false) (λ r u. begins_after s e r (let x = u.start in omega (arith, x, f, en, m))) aft (lie_after X W Z (numbered_ranges h fs) len stand)

    pub kept_are : (n : ℕ) → AreNumbered n fs → (rs : List FoldRange) → rs ≡ ins → without_each s e rs fs ≡ filter (λ f. not (fold_shares h s e f)) fs
    kept_are n k rs q = ap (λ (l : List FoldRange). without_each s e l fs) q ∙ taken_by_window h s e fs bef ins aft k.ascending all_here before_apart after_apart

    pub still_within : (rs qs : List FoldRange) → rs ≡ ins → qs ≡ filter (λ r. not (range_shares s e r)) rs → All (IsRangeWithin t.start t.end) qs
    still_within rs qs q f =
        All-same (IsRangeWithin t.start t.end) qs (filter (λ r. not (range_shares s e r)) ins) (f ∙ ap (filter (λ r. not (range_shares s e r))) q)
        (All-filter (λ r. not (range_shares s e r)) (IsRangeWithin t.start t.end) ins inside_within)

    pub without_folds : (rs qs : List FoldRange) (new : List Span) → rs ≡ ins → qs ≡ filter (λ r. not (range_shares s e r)) rs → IsMadeAgain t qs ss new → AreSpansOf h (filter (λ f. not (fold_shares h s e f)) fs) new
    without_folds rs qs new q f made =
        let P : FoldRange → Bool = λ r. not (range_shares s e r) in
        let parts_filtered : filter P (bef ++ (ins ++ aft)) ≡ bef ++ (filter P ins ++ aft) =
        filter-append P bef (ins ++ aft)
        ∙ ap (λ (l : List FoldRange). l ++ filter P (ins ++ aft)) (filter_apart s e bef before_apart)
        ∙ ap (λ (l : List FoldRange). bef ++ l) (filter-append P ins aft ∙ ap (λ (l : List FoldRange). filter P ins ++ l) (filter_apart s e aft after_apart)) in
        made_stands (filter P ins) (filter (λ f. not (fold_shares h s e f)) fs) new
        (still_within ins (filter P ins) refl refl)
        (subst (λ (l : List FoldRange). IsMadeAgain t l ss new) (f ∙ ap (filter P) q) made)
        (subst (λ (l : List FoldRange). IsPermutation l (bef ++ (filter P ins ++ aft))) (sym (ranges_filter h s e fs))
        (subst (IsPermutation (filter P (numbered_ranges h fs))) parts_filtered (filter_permutation P (numbered_ranges h fs) (bef ++ (ins ++ aft)) all_here)))

-- ---- a range of the text, and the spans near it

-- t is the run of spans that meet those that meet s..e
module _ (h : History) (fs : List NumberedFold) (ss : List Span) (sp : AreSpansOf h fs ss) (s e : ℕ) (l : e ≤ length (text h)) (near t : Touching) (i : IsTouching ss s e near) (j : IsTouching ss near.start near.end t) where
  near_start : t.start ≤ s
  near_start = let a = starts_before ss near.start near.end t j in let b = starts_before ss s e near i in omega (arith, a, b)

  near_end : e ≤ t.end
  near_end =
      let n = length_spans ss (ranges h (plain_folds fs)) (length (text h)) sp.marks in
      let a = ends_past ss s e near i (omega (arith, l, n)) in
      let b = ends_past ss near.start near.end t j (run_short ss s e near i) in omega (arith, a, b)

  module _ (b : IsBufferHistory h) (a : AreFolds h fs) (nn : ℕ) (k : AreNumbered nn fs) (rs : List FoldRange) (r : rs ≡ named_ranges h fs (folds_of (slice_range ss t.from t.to))) where
    of_window : rs ≡ ins h b fs a ss sp t near.start near.end j
    of_window = r ∙ named h b fs a ss sp t near.start near.end j nn k

    pub unfold_keeps : without_each s e rs fs ≡ filter (λ f. not (fold_shares h s e f)) fs
    unfold_keeps = kept_are h b fs a ss sp t near.start near.end j s e near_start near_end nn k rs of_window

    module _ (qs : List FoldRange) (f : qs ≡ filter (λ r. not (range_shares s e r)) rs) where
      pub unfold_within : All (IsRangeWithin t.start t.end) qs
      unfold_within = still_within h b fs a ss sp t near.start near.end j s e near_start near_end rs qs of_window f

      pub unfold_made : (new : List Span) → IsMadeAgain t qs ss new → AreSpansOf h (filter (λ f. not (fold_shares h s e f)) fs) new
      unfold_made new made = without_folds h b fs a ss sp t near.start near.end j s e near_start near_end rs qs new of_window f made

-- ---- a map without folds

pub open_spans : (h : History) (fs : List NumberedFold) (ss : List Span) (n : ℕ) → fs ≡ [] → n ≡ length (text h) → ss ≡ some_open n → AreSpansOf h fs ss
open_spans h fs ss n e l s =
    let z : n - 0 ≡ length (text h) = omega (arith, l) in
    let here : ss ≡ some_open (n - 0) = s ∙ ap some_open (omega arith) in
    subst (λ (xs : List NumberedFold). AreSpansOf h xs ss) (sym e) (subst (AreSpansOf h []) (sym here) (record {
      marks = made_marks [] [] 0 n (IsPermutation-refl []) none_sorted (All-nil (IsRangeWithin 0 n)) ∙ ap (marks [] 0) z;
      homes = made_folds [] [] 0 n (IsPermutation-refl []) none_sorted (All-nil (IsRangeWithin 0 n));
    }))
  where
    none_sorted : IsSortedBy (λ x y. is_lt (sorted_cmp x y)) []
    none_sorted k d a b = absurd (omega (arith, b))
