-- Spans that a sweep makes have the numbers of the ranges, and how sorted ranges come of a sort.
use Rattle.std.proofs.Common.{◌≡◌, ◌⊎◌, inl, inr, ℕ, suc, ◌+◌, ◌-◌, ◌≤◌, ◌<◌, ◌||◌, Bool, true, false, cond, eqb, max, List, [], ◌∷◌, ◌++◌, map, length, refl, sym, ap, ◌∙◌, subst, arith, append_assoc, append-nil}
use Rattle.std.specs.Prelude.{nat_lt}
use Rattle.std.specs.List.{All, list_any, slice_index_or}
use Rattle.std.specs.List.Sorted.{IsPermutation, IsSortedBy}
use Rattle.std.specs.declared.cmp.Ordering.{Ordering}
use Rattle.std.specs.Ordering.{is_lt, nat_cmp, ordering_then}
use Rattle.std.proofs.lemmas.Bool.{cases_Bool}
use Rattle.std.proofs.lemmas.Bool.Decides.{nat_tests}
use Rattle.std.proofs.lemmas.List.Elements.{All-nil, All-cons, All-append, All-weaker, All-head, All-tail}
use Rattle.std.proofs.lemmas.List.Sorted.{list_any-IsPermutation, IsPermutation-map, All-permutation}
use Rattle.fold_spans.specs.Marks.{Range, holds, joins, is_folded, is_joined, marks}
use Rattle.fold_spans.specs.Spans.{marks_of, span_len, span_folds, text_sum, some_open}
use Rattle.fold_spans.specs.Sweep.{range_of, number_of, IsWithin, BelongsTo, HaveInOrder, HaveFolds, run_of, takes, with_range, span_of, swept, sweep}
use Rattle.fold_spans.specs.declared.span.Span.{Span}
use Rattle.fold_spans.specs.declared.span.Span.TheVariants.{Open, Fold, Waiting}
use Rattle.fold_spans.specs.declared.sweep.FoldRange.{FoldRange}
use Rattle.fold_spans.specs.declared.sweep.Run.{Run}
use Rattle.fold_spans.proofs.BySpan.{length_marks_of}
use Rattle.fold_spans.proofs.Sweeping.{Follows, AreSorted, IsRun, first_run, Taken, into, beside, taken, left_out, taken_run, AreSortedWithin, same_marks, sweep_marks, length_marks}

-- ---- where ranges belong

-- a range belongs to a run
pub record IsOf (u : Run) (r : FoldRange) : Type 0 where
  pub start : u.start ≤ r.start
  pub order : r.start ≤ r.end
  pub end : r.end ≤ u.end
  pub inside : u.start < u.end → r.start ≡ r.end → (u.start < r.start) × (r.start < u.end)

first_is : (r : FoldRange) → r.start ≤ r.end → IsOf (run_of r) r
first_is r l = record { start = omega arith; order = l; end = omega arith; inside = λ a e. absurd (omega arith) }

-- those of a run are of the run that takes one more
still : (u : Run) (r : FoldRange) → Taken u r → (m : FoldRange) → IsOf u m → IsOf (with_range u r) m
still u r (into a b) m i = record {
  start = i.start;
  order = i.order;
  end = let e = i.end in grind arith;
  inside = λ c e. (let w = i.inside a e in (w.0, let x = w.1 in grind arith));
}
still u r (beside a b) m i = record {
  start = i.start;
  order = i.order;
  end = let e = i.end in grind arith;
  inside = λ c e. absurd (let z : max u.end r.end ≡ u.end = grind (arith, b) in omega (arith, z));
}

-- and so is that one
newest : (u : Run) (q r : FoldRange) (end : ℕ) → IsRun u q end → Follows q r → r.start ≤ r.end → Taken u r → IsOf (with_range u r) r
newest u q r end i f l (into a b) = record {
  start = let s = i.start in let t = f.start in omega arith;
  order = l;
  end = grind arith;
  inside = λ c e. (strict (cases_at u.start r.start (let s = i.start in let t = f.start in omega arith)) e, grind (arith, b));
}
  where
    cases_at : (x y : ℕ) → x ≤ y → (x < y) ⊎ (x ≡ y)
    cases_at x y m = go (cases_Bool (nat_lt x y))
      where
        go : (nat_lt x y ≡ true) ⊎ (nat_lt x y ≡ false) → (x < y) ⊎ (x ≡ y)
        go (inl t) = inl (grind (arith, nat_tests, t))
        go (inr t) = inr (grind (arith, nat_tests, t, m))

    strict : (u.start < r.start) ⊎ (u.start ≡ r.start) → r.start ≡ r.end → u.start < r.start
    strict (inl x) e = x
    strict (inr x) e = absurd (let s = i.start in let t = f.start in let w : u.start ≡ q.start = omega arith in let y = i.tie w a in let z : q.start ≡ r.start = omega arith in let k = f.tie z in omega arith)
newest u q r end i f l (beside a b) = record {
  start = let s = i.start in let t = f.start in omega arith;
  order = l;
  end = grind arith;
  inside = λ c e. absurd (let z : max u.end r.end ≡ u.end = grind (arith, b) in omega (arith, z));
}

-- in the span of the run
in_span : (u : Run) → u.start ≤ u.end → (m : FoldRange) → IsOf u m → BelongsTo u.start (span_of u) m
in_span u l m i = go (cases_Bool (nat_lt u.start u.end))
  where
    go : (nat_lt u.start u.end ≡ true) ⊎ (nat_lt u.start u.end ≡ false) → BelongsTo u.start (span_of u) m
    go (inl e) =
        let k : u.start < u.end = grind (arith, nat_tests, e) in
        let h : BelongsTo u.start (Fold (u.end - u.start) u.folds) m = (i.start, let x = i.end in omega arith, λ f. (let w = i.inside k f in (w.0, let y = w.1 in omega arith))) in
        rw e h
    go (inr e) =
        let k : u.end ≤ u.start = grind (arith, nat_tests, e) in
        let h : BelongsTo u.start (Waiting u.folds) m = (let x = i.start in let y = i.order in let z = i.end in omega arith, let x = i.start in let y = i.order in let z = i.end in omega arith) in
        rw e h

run_folds : (u : Run) → span_folds (span_of u) ≡ u.folds
run_folds u = elim (nat_lt u.start u.end) as (λ b. span_folds (cond b (Fold (u.end - u.start) u.folds) (Waiting u.folds)) ≡ u.folds) [ true ↦ refl | false ↦ refl ]

run_end : (u : Run) → u.start ≤ u.end → u.start + span_len (span_of u) ≡ u.end
run_end u l = go (cases_Bool (nat_lt u.start u.end))
  where
    go : (nat_lt u.start u.end ≡ true) ⊎ (nat_lt u.start u.end ≡ false) → u.start + span_len (span_of u) ≡ u.end
    go (inl e) = rw e (omega arith)
    go (inr e) = let k : u.end ≤ u.start = grind (arith, nat_tests, e) in rw e (omega arith)

-- open bytes have no numbers
open_first : (n p at : ℕ) (ss : List Span) (rs : List FoldRange) → p + n ≡ at → HaveInOrder at ss rs → HaveInOrder p (some_open n ++ ss) rs
open_first n p at ss rs e h = go (cases_Bool (eqb n 0))
  where
    go : (eqb n 0 ≡ true) ⊎ (eqb n 0 ≡ false) → HaveInOrder p (some_open n ++ ss) rs
    go (inl t) = let z : n ≡ 0 = grind (arith, nat_tests, t) in let y : at ≡ p = omega arith in rw t (subst (λ (k : ℕ). HaveInOrder k ss rs) y h)
    go (inr t) = rw t ([], rs, refl, refl, All-nil (BelongsTo p (Open n)), subst (λ (k : ℕ). HaveInOrder k ss rs) (sym e) h)

map_snoc : (ms : List FoldRange) (r : FoldRange) → map number_of (ms ++ r ∷ []) ≡ map number_of ms ++ r.number ∷ []
map_snoc [] r = refl
map_snoc (m ∷ ms) r = ap (λ (ns : List ℕ). m.number ∷ ns) (map_snoc ms r)

swept_folds : (rs : List FoldRange) (u : Run) (q : FoldRange) (end : ℕ) (ms : List FoldRange) → IsRun u q end → AreSorted q end rs → u.folds ≡ map number_of ms → All (IsOf u) ms → HaveInOrder u.start (swept u rs end) (ms ++ rs)
swept_folds [] u q end ms i o n a =
    let none : HaveInOrder (u.start + span_len (span_of u)) (some_open (end - u.end)) [] = subst (λ (ss : List Span). HaveInOrder (u.start + span_len (span_of u)) ss []) (append-nil (some_open (end - u.end)))
    (open_first (end - u.end) (u.start + span_len (span_of u)) (u.start + span_len (span_of u) + (end - u.end)) [] [] refl refl) in
    (ms, [], refl, run_folds u ∙ n, All-weaker (IsOf u) (BelongsTo u.start (span_of u)) (λ m k. in_span u i.order m k) ms a, none)
swept_folds (r ∷ rs) u q end ms i o n a = go (cases_Bool (takes u r)) (swept_folds rs)
  where
    go : (takes u r ≡ true) ⊎ (takes u r ≡ false)
        → ((u : Run) (q : FoldRange) (end : ℕ) (ms : List FoldRange) → IsRun u q end → AreSorted q end rs → u.folds ≡ map number_of ms → All (IsOf u) ms → HaveInOrder u.start (swept u rs end) (ms ++ rs))
        → HaveInOrder u.start (swept u (r ∷ rs) end) (ms ++ r ∷ rs)
    go (inl t) ih =
        let w = taken u r t in
        let all : All (IsOf (with_range u r)) (ms ++ r ∷ []) = All-append (IsOf (with_range u r)) ms (r ∷ []) (All-weaker (IsOf u) (IsOf (with_range u r)) (λ m k. still u r w m k) ms a)
        (All-cons (IsOf (with_range u r)) r [] (newest u q r end i o.0 o.1 w) (All-nil (IsOf (with_range u r)))) in
        let h = ih (with_range u r) r end (ms ++ r ∷ []) (taken_run u q r end i o.0 o.1 o.2 w) o.3 (ap (λ (ns : List ℕ). ns ++ r.number ∷ []) n ∙ sym (map_snoc ms r)) all in
        rw t (subst (λ (xs : List FoldRange). HaveInOrder u.start (swept (with_range u r) rs end) xs) (append_assoc ms (r ∷ []) rs) h)
    go (inr t) ih =
        let l = left_out u q r end i o.0 t in
        let h : HaveInOrder r.start (swept (run_of r) rs end) (r ∷ rs) = ih (run_of r) r end (r ∷ []) (first_run r end o.1 o.2) o.3 refl (All-cons (IsOf (run_of r)) r [] (first_is r o.1) (All-nil (IsOf (run_of r)))) in
        let e = run_end u i.order in
        let at : u.start + span_len (span_of u) + (r.start - u.end) ≡ r.start = omega arith in
        rw t (
          ms,
          r ∷ rs,
          refl,
          run_folds u ∙ n,
          All-weaker (IsOf u) (BelongsTo u.start (span_of u)) (λ m k. in_span u i.order m k) ms a,
          open_first (r.start - u.end) (u.start + span_len (span_of u)) r.start (swept (run_of r) rs end) (r ∷ rs) at h,
        )

pub sweep_folds : (rs : List FoldRange) (at end : ℕ) → AreSortedWithin at end rs → HaveInOrder at (sweep at rs end) rs
sweep_folds [] at end o = subst (λ (ss : List Span). HaveInOrder at ss []) (append-nil (some_open (end - at))) (open_first (end - at) at (at + (end - at)) [] [] refl refl)
sweep_folds (r ∷ rs) at end o =
    let h : HaveInOrder r.start (swept (run_of r) rs end) (r ∷ rs) = swept_folds rs (run_of r) r end (r ∷ []) (first_run r end o.1 o.2) o.3 refl (All-cons (IsOf (run_of r)) r [] (first_is r o.1) (All-nil (IsOf (run_of r)))) in
    let a = o.0 in
    open_first (r.start - at) at r.start (swept (run_of r) rs end) (r ∷ rs) (omega arith) h

-- ---- what a sort gives

-- r is not less than q, by start, then end, then number
abbrev pub sorted_cmp : FoldRange → FoldRange → Ordering
sorted_cmp a b = ordering_then (nat_cmp a.start b.start) (ordering_then (nat_cmp a.end b.end) (nat_cmp a.number b.number))

follows : (q r : FoldRange) → is_lt (sorted_cmp r q) ≡ false → Follows q r
follows q r e = record { start = grind (arith, nat_tests, e); tie = λ f. grind (arith, nat_tests, e, f) }

tail_sorted : (r : FoldRange) (rs : List FoldRange) → IsSortedBy (λ x y. is_lt (sorted_cmp x y)) (r ∷ rs) → IsSortedBy (λ x y. is_lt (sorted_cmp x y)) rs
tail_sorted r rs s k d a b = let w : 0 ≤ suc k = omega arith in let v : suc k + 1 < suc (length rs) = omega arith in
    let z : suc k + 1 ≡ suc (k + 1) = omega arith in subst (λ (n : ℕ). is_lt (sorted_cmp (slice_index_or (r ∷ rs) n d) (slice_index_or (r ∷ rs) (suc k) d)) ≡ false) z (s (suc k) d w v)

sorted_on : (rs : List FoldRange) (q : FoldRange) (at end : ℕ) → IsSortedBy (λ x y. is_lt (sorted_cmp x y)) (q ∷ rs) → All (IsWithin at end) rs → AreSorted q end rs
sorted_on [] q at end s a = tt
sorted_on (r ∷ rs) q at end s a =
    let w : IsWithin at end r = All-head (IsWithin at end) r rs a in
    let v : 0 + 1 < suc (suc (length rs)) = omega arith in
    let z : 0 + 1 ≡ 1 = omega arith in
    let first : is_lt (sorted_cmp r q) ≡ false = subst (λ (n : ℕ). is_lt (sorted_cmp (slice_index_or (q ∷ (r ∷ rs)) n q) q) ≡ false) z (s 0 q (omega arith) v) in
    (follows q r first, w.order, w.end, sorted_on rs r at end (tail_sorted q (r ∷ rs) s) (All-tail (IsWithin at end) r rs a))

pub sorted_within : (rs : List FoldRange) (at end : ℕ) → IsSortedBy (λ x y. is_lt (sorted_cmp x y)) rs → All (IsWithin at end) rs → AreSortedWithin at end rs
sorted_within [] at end s a = tt
sorted_within (r ∷ rs) at end s a = let w : IsWithin at end r = All-head (IsWithin at end) r rs a in (w.start, w.order, w.end, sorted_on rs r at end s (All-tail (IsWithin at end) r rs a))

folded_any : (rs : List Range) (i : ℕ) → is_folded rs i ≡ list_any (λ r. holds r i) rs
folded_any [] i = refl
folded_any (r ∷ rs) i = ap (λ (b : Bool). holds r i || b) (folded_any rs i)

joined_any : (rs : List Range) (i : ℕ) → is_joined rs i ≡ list_any (λ r. joins r i) rs
joined_any [] i = refl
joined_any (r ∷ rs) i = ap (λ (b : Bool). joins r i || b) (joined_any rs i)

-- marks do not depend on the order of ranges
pub marks_in_any_order : (rs qs : List Range) (i n : ℕ) → IsPermutation rs qs → marks rs i n ≡ marks qs i n
marks_in_any_order rs qs i n p = same_marks rs qs
    (λ j. folded_any rs j ∙ list_any-IsPermutation (λ r. holds r j) rs qs p ∙ sym (folded_any qs j))
    (λ j. joined_any rs j ∙ list_any-IsPermutation (λ r. joins r j) rs qs p ∙ sym (joined_any qs j)) n i

module _ (rs sorted : List FoldRange) (start end : ℕ) (p : IsPermutation rs sorted) (s : IsSortedBy (λ x y. is_lt (sorted_cmp x y)) sorted) (a : All (IsWithin start end) rs) where
  order : AreSortedWithin start end sorted
  order = sorted_within sorted start end s (All-permutation (IsWithin start end) rs sorted p a)

  pub made_marks : marks_of (sweep start sorted end) ≡ marks (map range_of rs) start (end - start)
  made_marks = sweep_marks sorted start end order ∙ sym (marks_in_any_order (map range_of rs) (map range_of sorted) start (end - start) (IsPermutation-map range_of rs sorted p))

  pub made_folds : HaveFolds start (sweep start sorted end) rs
  made_folds = (sorted, p, sweep_folds sorted start end order)

  pub made_len : text_sum (sweep start sorted end) ≡ end - start
  made_len = sym (length_marks_of (sweep start sorted end)) ∙ ap length made_marks ∙ length_marks (map range_of rs) (end - start) start
