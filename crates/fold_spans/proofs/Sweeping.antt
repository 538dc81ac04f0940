-- Spans that a sweep makes have the marks of the ranges.
use Rattle.std.proofs.Common.{◌≡◌, ◌⊎◌, inl, inr, ℕ, zero, suc, ◌+◌, ◌-◌, ◌≤◌, ◌<◌, ◌||◌, Bool, true, false, cond, eqb, max, List, [], ◌∷◌, ◌++◌, map, length, refl, sym, ap, ◌∙◌, subst, arith, append-nil}
use Rattle.std.specs.Prelude.{nat_le, nat_lt}
use Rattle.std.proofs.lemmas.Bool.{cases_Bool}
use Rattle.std.proofs.lemmas.Bool.Decides.{nat_tests}
use Rattle.fold_spans.specs.Marks.{Range, holds, joins, is_folded, is_joined, mark, marks, Mark}
use Rattle.fold_spans.specs.Marks.Mark.{Plain, First, Inner}
use Rattle.fold_spans.specs.Spans.{repeat_mark, ellipsis_marks, span_marks, marks_of, some_open, IsSpan, AreSpans}
use Rattle.fold_spans.specs.Sweep.{range_of, run_of, takes, with_range, span_of, swept, sweep}
use Rattle.fold_spans.specs.Laws.{In, IsApart}
use Rattle.fold_spans.specs.declared.span.Span.{Span}
use Rattle.fold_spans.specs.declared.sweep.FoldRange.{FoldRange}
use Rattle.fold_spans.specs.declared.sweep.Run.{Run}
use Rattle.fold_spans.proofs.Local.{same_mark, marks_are_local}
use Rattle.fold_spans.proofs.Kept.{marks_split}
use Rattle.fold_spans.proofs.BySpan.{marks_of-append}
use Rattle.fold_spans.proofs.Sums.{AreSpans-append, AreSpans-open}

-- ---- sorted ranges

-- r follows q: it starts later, or at the same place and ends no sooner
pub record Follows (q r : FoldRange) : Type 0 where
  pub start : q.start ≤ r.start
  pub tie : q.start ≡ r.start → q.end ≤ r.end

-- ranges after q, each of which follows the one before it and ends at `end` at most
abbrev pub AreSorted : FoldRange → ℕ → List FoldRange → Type 0
AreSorted q end [] = Unit {0}
AreSorted q end (r ∷ rs) = Follows q r × (r.start ≤ r.end) × (r.end ≤ end) × AreSorted r end rs

-- u is the run whose last range is q
pub record IsRun (u : Run) (q : FoldRange) (end : ℕ) : Type 0 where
  pub order : u.start ≤ u.end
  pub start : u.start ≤ q.start
  pub tie : u.start ≡ q.start → u.start < u.end → q.start < q.end
  pub none : u.end ≤ u.start → q.start ≡ u.start
  pub within : u.end ≤ end

pub first_run : (r : FoldRange) (end : ℕ) → r.start ≤ r.end → r.end ≤ end → IsRun (run_of r) r end
first_run r end l m = record { order = l; start = omega arith; tie = λ e f. f; none = λ f. refl; within = m }

-- what a run takes
pub data Taken (u : Run) (r : FoldRange) : Type 0 where
  into : u.start < u.end → r.start < u.end → Taken u r
  beside : u.end ≤ u.start → r.end ≡ u.end → Taken u r

pub taken : (u : Run) (r : FoldRange) → takes u r ≡ true → Taken u r
taken u r e = go (cases_Bool (nat_lt u.start u.end))
  where
    go : (nat_lt u.start u.end ≡ true) ⊎ (nat_lt u.start u.end ≡ false) → Taken u r
    go (inl t) = let x : nat_lt r.start u.end ≡ true = subst (λ (b : Bool). cond b (nat_lt r.start u.end) (eqb r.end u.end) ≡ true) t e in into (grind (arith, nat_tests, t)) (grind (arith, nat_tests, x))
    go (inr t) = let x : eqb r.end u.end ≡ true = subst (λ (b : Bool). cond b (nat_lt r.start u.end) (eqb r.end u.end) ≡ true) t e in beside (grind (arith, nat_tests, t)) (grind (arith, nat_tests, x))

-- what it does not take begins at its end or past it
pub left_out : (u : Run) (q r : FoldRange) (end : ℕ) → IsRun u q end → Follows q r → takes u r ≡ false → u.end ≤ r.start
left_out u q r end i f e = go (cases_Bool (nat_lt u.start u.end))
  where
    go : (nat_lt u.start u.end ≡ true) ⊎ (nat_lt u.start u.end ≡ false) → u.end ≤ r.start
    go (inl t) = let x : nat_lt r.start u.end ≡ false = subst (λ (b : Bool). cond b (nat_lt r.start u.end) (eqb r.end u.end) ≡ false) t e in grind (arith, nat_tests, x)
    go (inr t) = let x : u.end ≤ u.start = grind (arith, nat_tests, t) in let y = i.start in let z = f.start in omega arith

pub taken_run : (u : Run) (q r : FoldRange) (end : ℕ) → IsRun u q end → Follows q r → r.start ≤ r.end → r.end ≤ end → Taken u r → IsRun (with_range u r) r end
taken_run u q r end i f l m (into a b) = record {
  order = let o = i.order in grind arith;
  start = let s = i.start in let t = f.start in omega arith;
  tie = λ e g. (let s = i.start in let t = f.start in let w : u.start ≡ q.start = omega arith in let x = i.tie w a in let y = f.tie (omega arith) in let z : q.start ≡ r.start = omega arith in omega arith);
  none = λ g. absurd (let h : u.end ≤ max u.end r.end = grind arith in omega arith);
  within = let w = i.within in grind arith;
}
taken_run u q r end i f l m (beside a b) =
    let o = i.order in
    let s = i.none a in
    let t = f.start in
    let same : max u.end r.end ≡ u.end = grind (arith, b) in
    let at : r.start ≡ u.start = omega arith in
    record {
      order = omega (arith, same);
      start = omega arith;
      tie = λ e g. absurd (omega (arith, same));
      none = λ g. at;
      within = let w = i.within in omega (arith, same);
    }

-- ---- marks

abbrev ranges : List FoldRange → List Range
ranges rs = map range_of rs

open_marks : (n : ℕ) → marks_of (some_open n) ≡ repeat_mark n Plain
open_marks n = go n (cases_Bool (eqb n 0))
  where
    go : (n : ℕ) → (eqb n 0 ≡ true) ⊎ (eqb n 0 ≡ false) → marks_of (some_open n) ≡ repeat_mark n Plain
    go n (inl e) = let z : n ≡ 0 = grind (arith, nat_tests, e) in rw (e, z) refl
    go n (inr e) = rw e (append-nil (repeat_mark n Plain))

run_marks : (u : Run) → span_marks (span_of u) ≡ ellipsis_marks (u.end - u.start)
run_marks u = go (cases_Bool (nat_lt u.start u.end))
  where
    go : (nat_lt u.start u.end ≡ true) ⊎ (nat_lt u.start u.end ≡ false) → span_marks (span_of u) ≡ ellipsis_marks (u.end - u.start)
    go (inl e) = rw e refl
    go (inr e) = let l : u.end ≤ u.start = grind (arith, nat_tests, e) in let z : u.end - u.start ≡ 0 = omega arith in rw (e, z) refl

-- where no range is, all is plain
plain_run : (n i : ℕ) → marks [] i n ≡ repeat_mark n Plain
plain_run zero i = refl
plain_run (suc n) i = ap (λ (ms : List Mark). Plain ∷ ms) (plain_run n (suc i))

plain_there : (rs : List Range) (i n : ℕ) → ((r : Range) → In r rs → IsApart i n r) → marks rs i n ≡ repeat_mark n Plain
plain_there rs i n a = marks_are_local rs [] i n (record { some = λ r x. absurd x; others = λ r x. inr (a r x) }) ∙ plain_run n i

-- one range
inner_run : (n i s e : ℕ) → s < i → i + n ≤ e → marks ((s, e) ∷ []) i n ≡ repeat_mark n Inner
inner_run zero i s e a b = refl
inner_run (suc n) i s e a b =
    let x : nat_lt s i ≡ true = grind (arith, nat_tests, a) in
    let y : nat_lt i e ≡ true = (let l : i < e = omega (arith, b) in grind (arith, nat_tests, l)) in
    rw (x, y) (ap (λ (ms : List Mark). Inner ∷ ms) (inner_run n (suc i) s e (omega arith) (omega arith)))

fold_run : (s e : ℕ) → marks ((s, e) ∷ []) s (e - s) ≡ ellipsis_marks (e - s)
fold_run s e = go (e - s) refl
  where
    go : (n : ℕ) → e - s ≡ n → marks ((s, e) ∷ []) s n ≡ ellipsis_marks n
    go zero q = refl
    go (suc n) q =
        let l : s < e = omega arith in
        let x : nat_lt s s ≡ false = grind (arith, nat_tests) in
        let y : nat_le s s ≡ true = grind (arith, nat_tests) in
        let z : nat_lt s e ≡ true = grind (arith, nat_tests, l) in
        rw (x, y, z) (ap (λ (ms : List Mark). First ∷ ms) (inner_run n (suc s) s e (omega arith) (omega arith)))

pub same_marks : (rs qs : List Range) → ((j : ℕ) → is_folded rs j ≡ is_folded qs j) → ((j : ℕ) → is_joined rs j ≡ is_joined qs j) → (n i : ℕ) → marks rs i n ≡ marks qs i n
same_marks rs qs f g zero i = refl
same_marks rs qs f g (suc n) i = ap (λ (m : Mark). m ∷ marks rs (suc i) n) (same_mark rs qs i i (f i) (g i)) ∙ ap (λ (ms : List Mark). mark qs i ∷ ms) (same_marks rs qs f g n (suc i))

-- a range that a run takes makes one range with it
into_holds : (s e a b j : ℕ) (x : Bool) → s ≤ a → a < e → (holds (s, e) j || (holds (a, b) j || x)) ≡ (holds (s, max e b) j || x)
into_holds s e a b j x p q = grind (arith, nat_tests, p, q)

into_joins : (s e a b j : ℕ) (x : Bool) → s ≤ a → a < e → (joins (s, e) j || (joins (a, b) j || x)) ≡ (joins (s, max e b) j || x)
into_joins s e a b j x p q = grind (arith, nat_tests, p, q)

beside_holds : (s e a b j : ℕ) (x : Bool) → s ≤ a → e ≤ s → b ≡ e → (holds (s, e) j || (holds (a, b) j || x)) ≡ (holds (s, max e b) j || x)
beside_holds s e a b j x p q r = grind (arith, nat_tests, p, q, r)

beside_joins : (s e a b j : ℕ) (x : Bool) → s ≤ a → e ≤ s → b ≡ e → (joins (s, e) j || (joins (a, b) j || x)) ≡ (joins (s, max e b) j || x)
beside_joins s e a b j x p q r = grind (arith, nat_tests, p, q, r)

one_range : (u : Run) (r : FoldRange) (rs : List FoldRange) (n : ℕ) → u.start ≤ r.start → Taken u r
    → marks ((u.start, max u.end r.end) ∷ ranges rs) u.start n ≡ marks ((u.start, u.end) ∷ ranges (r ∷ rs)) u.start n
one_range u r rs n l (into a b) = sym (same_marks ((u.start, u.end) ∷ ranges (r ∷ rs)) ((u.start, max u.end r.end) ∷ ranges rs)
    (λ j. into_holds u.start u.end r.start r.end j (is_folded (ranges rs) j) l b) (λ j. into_joins u.start u.end r.start r.end j (is_joined (ranges rs) j) l b) n u.start)
one_range u r rs n l (beside a b) = sym (same_marks ((u.start, u.end) ∷ ranges (r ∷ rs)) ((u.start, max u.end r.end) ∷ ranges rs)
    (λ j. beside_holds u.start u.end r.start r.end j (is_folded (ranges rs) j) l a b) (λ j. beside_joins u.start u.end r.start r.end j (is_joined (ranges rs) j) l a b) n u.start)

later : (q : FoldRange) (end : ℕ) (rs : List FoldRange) → AreSorted q end rs → (r : Range) → In r (ranges rs) → q.start ≤ r.0
later q end [] o r i = absurd i
later q end (p ∷ rs) o r (inl i) = let e : r.0 ≡ p.start = ap (λ (x : Range). x.0) i in let l = o.0.start in omega arith
later q end (p ∷ rs) o r (inr i) = let l = later p end rs o.3 r i in let m = o.0.start in omega arith

-- the spans of a run from s to e, and of ranges that begin at `at` or later
alone : (s e at end : ℕ) (rs : List Range) (front : List Mark) (rest : List Span) → s ≤ e → e ≤ at → at ≤ end → front ≡ ellipsis_marks (e - s) → ((r : Range) → In r rs → at ≤ r.0) → marks_of rest ≡ marks rs at (end - at)
    → front ++ marks_of (some_open (at - e) ++ rest) ≡ marks ((s, e) ∷ rs) s (end - s)
alone s e at end rs front rest l m k g f h =
    ap (λ (ms : List Mark). ms ++ marks_of (some_open (at - e) ++ rest)) (g ∙ sym (fold_run s e) ∙ sym near)
    ∙ ap (λ (ms : List Mark). marks all s (e - s) ++ ms) (marks_of-append (some_open (at - e)) rest ∙ ap (λ (ms : List Mark). ms ++ marks_of rest) (open_marks (at - e) ∙ sym between)
    ∙ ap (λ (ms : List Mark). marks all e (at - e) ++ ms) (h ∙ sym far) ∙ sym (marks_split all (at - e) e (end - at) at (omega arith)) ∙ ap (λ (n : ℕ). marks all e n) two)
    ∙ sym (marks_split all (e - s) s (end - e) e (omega arith)) ∙ ap (λ (n : ℕ). marks all s n) three
  where
    all : List Range
    all = (s, e) ∷ rs

    two : at - e + (end - at) ≡ end - e
    two = omega arith

    three : e - s + (end - e) ≡ end - s
    three = omega arith

    near : marks all s (e - s) ≡ marks ((s, e) ∷ []) s (e - s)
    near = marks_are_local all ((s, e) ∷ []) s (e - s) (record {
      some = λ r i. elim i [ inl x ↦ inl x | inr x ↦ absurd x ];
      others = λ r i. elim i [ inl x ↦ inl (inl x) | inr x ↦ inr (inr (let y = f r x in omega arith)) ];
    })

    between : marks all e (at - e) ≡ repeat_mark (at - e) Plain
    between = plain_there all e (at - e) (λ r i. elim i [
      | inl x ↦ inl (let y : r.1 ≡ e = ap (λ (q : Range). q.1) x in omega arith)
      | inr x ↦ inr (let y = f r x in omega arith)
    ])

    far : marks all at (end - at) ≡ marks rs at (end - at)
    far = marks_are_local all rs at (end - at) (record {
      some = λ r i. inr i;
      others = λ r i. elim i [
        | inl x ↦ inr (inl (let y : r.1 ≡ e = ap (λ (q : Range). q.1) x in omega arith))
        | inr x ↦ inl x
      ];
    })

pub swept_marks : (rs : List FoldRange) (u : Run) (q : FoldRange) (end : ℕ) → IsRun u q end → AreSorted q end rs → marks_of (swept u rs end) ≡ marks ((u.start, u.end) ∷ ranges rs) u.start (end - u.start)
swept_marks [] u q end i o =
    ap (λ (ss : List Span). span_marks (span_of u) ++ marks_of ss) (sym (append-nil (some_open (end - u.end))))
    ∙ alone u.start u.end end end [] (span_marks (span_of u)) [] i.order i.within (omega arith) (run_marks u) (λ r x. absurd x)
    (let z : end - end ≡ 0 = omega arith in sym (ap (λ (n : ℕ). marks [] end n) z))
swept_marks (r ∷ rs) u q end i o = go (cases_Bool (takes u r)) (swept_marks rs)
  where
    go : (takes u r ≡ true) ⊎ (takes u r ≡ false)
        → ((u : Run) (q : FoldRange) (end : ℕ) → IsRun u q end → AreSorted q end rs → marks_of (swept u rs end) ≡ marks ((u.start, u.end) ∷ ranges rs) u.start (end - u.start))
        → marks_of (swept u (r ∷ rs) end) ≡ marks ((u.start, u.end) ∷ ranges (r ∷ rs)) u.start (end - u.start)
    go (inl t) ih =
        let w = taken u r t in
        let l : u.start ≤ r.start = (let a = i.start in let b = o.0.start in omega arith) in
        rw t (ih (with_range u r) r end (taken_run u q r end i o.0 o.1 o.2 w) o.3 ∙ one_range u r rs (end - u.start) l w)
    go (inr t) ih =
        let l = left_out u q r end i o.0 t in
        let k : r.start ≤ end = (let a = o.1 in let b = o.2 in omega arith) in
        rw t (alone u.start u.end r.start end (ranges (r ∷ rs)) (span_marks (span_of u)) (swept (run_of r) rs end) i.order l k (run_marks u)
        (λ x j. elim j [ inl e ↦ (let y : x.0 ≡ r.start = ap (λ (z : Range). z.0) e in omega arith) | inr e ↦ later r end rs o.3 x e ])
        (ih (run_of r) r end (first_run r end o.1 o.2) o.3))

-- the ranges are sorted, and lie within at..end
abbrev pub AreSortedWithin : ℕ → ℕ → List FoldRange → Type 0
AreSortedWithin at end [] = Unit {0}
AreSortedWithin at end (r ∷ rs) = (at ≤ r.start) × (r.start ≤ r.end) × (r.end ≤ end) × AreSorted r end rs

pub sweep_marks : (rs : List FoldRange) (at end : ℕ) → AreSortedWithin at end rs → marks_of (sweep at rs end) ≡ marks (ranges rs) at (end - at)
sweep_marks [] at end o = open_marks (end - at) ∙ sym (plain_run (end - at) at)
sweep_marks (r ∷ rs) at end o =
    let a = o.0 in
    let b = o.1 in
    let c = o.2 in
    let n : r.start - at + (end - r.start) ≡ end - at = omega arith in
    marks_of-append (some_open (r.start - at)) (swept (run_of r) rs end)
    ∙ ap (λ (ms : List Mark). ms ++ marks_of (swept (run_of r) rs end)) (open_marks (r.start - at) ∙ sym (plain_there (ranges (r ∷ rs)) at (r.start - at) (λ x i. inr (let z = first x i in omega arith))))
    ∙ ap (λ (ms : List Mark). marks (ranges (r ∷ rs)) at (r.start - at) ++ ms) (swept_marks rs (run_of r) r end (first_run r end b c) o.3)
    ∙ sym (marks_split (ranges (r ∷ rs)) (r.start - at) at (end - r.start) r.start (omega arith)) ∙ ap (λ (m : ℕ). marks (ranges (r ∷ rs)) at m) n
  where
    first : (x : Range) → In x (ranges (r ∷ rs)) → r.start ≤ x.0
    first x (inl i) = let e : x.0 ≡ r.start = ap (λ (z : Range). z.0) i in omega arith
    first x (inr i) = later r end rs o.3 x i

-- ---- they are spans

run_is : (u : Run) → IsSpan (span_of u)
run_is u = go (cases_Bool (nat_lt u.start u.end))
  where
    go : (nat_lt u.start u.end ≡ true) ⊎ (nat_lt u.start u.end ≡ false) → IsSpan (span_of u)
    go (inl e) = rw e (let l : u.start < u.end = grind (arith, nat_tests, e) in omega arith)
    go (inr e) = rw e tt

swept_spans : (rs : List FoldRange) (u : Run) (end : ℕ) → AreSpans (swept u rs end)
swept_spans [] u end = (run_is u, AreSpans-open (end - u.end))
swept_spans (r ∷ rs) u end = go (cases_Bool (takes u r)) (swept_spans rs)
  where
    go : (takes u r ≡ true) ⊎ (takes u r ≡ false) → ((u : Run) (end : ℕ) → AreSpans (swept u rs end)) → AreSpans (swept u (r ∷ rs) end)
    go (inl t) ih = rw t (ih (with_range u r) end)
    go (inr t) ih = rw t (run_is u, AreSpans-append (some_open (r.start - u.end)) (swept (run_of r) rs end) (AreSpans-open (r.start - u.end)) (ih (run_of r) end))

pub sweep_spans : (rs : List FoldRange) (at end : ℕ) → AreSpans (sweep at rs end)
sweep_spans [] at end = AreSpans-open (end - at)
sweep_spans (r ∷ rs) at end = AreSpans-append (some_open (r.start - at)) (swept (run_of r) rs end) (AreSpans-open (r.start - at)) (swept_spans rs (run_of r) end)

-- n bytes have n marks
pub length_marks : (rs : List Range) (n i : ℕ) → length (marks rs i n) ≡ n
length_marks rs zero i = refl
length_marks rs (suc n) i = ap suc (length_marks rs n (suc i))
