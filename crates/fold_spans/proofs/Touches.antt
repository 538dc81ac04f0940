-- The spans that touch a range, and those of a run.
use Rattle.std.proofs.Common.{◌≡◌, ℕ, zero, suc, ◌+◌, ◌-◌, ◌<◌, ◌≤◌, ◌^◌, ◌⊎◌, inl, inr, List, [], ◌∷◌, ◌++◌, length, min, take, drop, Some, None, sym, ap, ◌∙◌, arith}
use Rattle.std.specs.Prelude.{slice_get, slice_range, nat_le, nat_lt}
use Rattle.std.proofs.lemmas.Bool.{cases_lt}
use Rattle.std.proofs.lemmas.Bool.Decides.{nat_tests}
use Rattle.std.proofs.lemmas.List.{length-take-le}
use Rattle.std.proofs.lemmas.List.Edits.{between_more}
use Rattle.std.proofs.lemmas.Option.{get_or_from_slice_get}
use Rattle.tree_cursor.specs.Places.{place_behind}
use Rattle.fold_spans.specs.Spans.{span_len, span_folds, text_sum, folds_of}
use Rattle.fold_spans.specs.Lengths.{no_lengths, lengths_of_span, lengths_of, move_place}
use Rattle.fold_spans.specs.Found.{start_of, IsTouching}
use Rattle.fold_spans.specs.declared.span.Span.{Span}
use Rattle.fold_spans.specs.declared.lengths.Lengths.{Lengths}
use Rattle.fold_spans.specs.declared.touching.Touching.{Touching}
use Rattle.fold_spans.proofs.Sums.{text_sum-append, take_sum, folds_of-append, folds_of-one}
use Rattle.fold_spans.proofs.Stops.{IsStop, passed, start_stops, stop_before, stop_here_is, At, at_index, past_end}

-- where seeks stop: the first span that ends at s or past it, and the first that ends past e
record AreEnds (ss : List Span) (s e from last : ℕ) : Type 0 where
  within : from ≤ length ss
  before : (k : ℕ) → k < from → start_of ss (suc k) < s
  first : from < length ss → s ≤ start_of ss (suc from)
  few : last ≤ length ss
  meets : (k : ℕ) → k < last → start_of ss (suc k) ≤ e
  next : last < length ss → e < start_of ss (suc last)

ends : (ss : List Span) (s e : ℕ) (p q : Lengths) → p ≡ no_lengths → q ≡ no_lengths → AreEnds ss s e (passed (λ x. nat_le s x.text) p ss) (passed (λ x. nat_lt e x.text) q ss)
ends ss s e p q z w =
    let f = start_stops (λ x. nat_le s x.text) p ss z in
    let g = start_stops (λ x. nat_lt e x.text) q ss w in
    record {
      within = f.within;
      before = λ k l. (let t = stop_before (λ x. nat_le s x.text) ss (passed (λ x. nat_le s x.text) p ss) k f l in grind (arith, nat_tests, t));
      first = λ l. (let t = stop_here_is (λ x. nat_le s x.text) ss (passed (λ x. nat_le s x.text) p ss) f l in grind (arith, nat_tests, t));
      few = g.within;
      meets = λ k l. (let t = stop_before (λ x. nat_lt e x.text) ss (passed (λ x. nat_lt e x.text) q ss) k g l in grind (arith, nat_tests, t));
      next = λ l. (let t = stop_here_is (λ x. nat_lt e x.text) ss (passed (λ x. nat_lt e x.text) q ss) g l in grind (arith, nat_tests, t));
    }

-- the run goes up to the span that ends past e, or to the last
abbrev GoesTo : List Span → ℕ → ℕ → Type 0
GoesTo ss last to = ((last < length ss) × (to ≡ suc last)) ⊎ ((length ss ≤ last) × (to ≡ last))

module _ (ss : List Span) (s e from last : ℕ) (a : AreEnds ss s e from last) (l : s ≤ e) where
  in_order : (to : ℕ) → GoesTo ss last to → from ≤ to
  in_order to (inl g) = elim (cases_lt last from) [
    | inl m ↦ (let x = a.before last m in let y = a.next g.0 in absurd (omega arith))
    | inr m ↦ (let t = g.1 in omega arith)
  ]
  in_order to (inr g) = let t = g.1 in let u = g.0 in let w = a.within in omega arith

  inside : (to : ℕ) → GoesTo ss last to → to ≤ length ss
  inside to (inl g) = let t = g.1 in let u = g.0 in omega arith
  inside to (inr g) = let t = g.1 in let w = a.few in omega arith

  few_more : (to : ℕ) → GoesTo ss last to → to ≤ suc last
  few_more to (inl g) = let t = g.1 in omega arith
  few_more to (inr g) = let t = g.1 in omega arith

  begins : (to k : ℕ) → GoesTo ss last to → k < to → start_of ss k ≤ e
  begins to zero g m = omega arith
  begins to (suc k) g m = let u = few_more to g in a.meets k (omega arith)

  finishes : (to k : ℕ) → GoesTo ss last to → from ≤ k → k < to → s ≤ start_of ss (suc k)
  finishes to k g m n = let u = inside to g in let x = a.first (omega arith) in let y = take_sum ss (suc from) (suc k) (omega arith) in omega arith

  later : (to k : ℕ) → GoesTo ss last to → to ≤ k → k < length ss → e < start_of ss k
  later to k (inl g) m n = let t = g.1 in let x = a.next g.0 in let y = take_sum ss (suc last) k (omega arith) in omega arith
  later to k (inr g) m n = let t = g.1 in let u = g.0 in absurd (omega arith)

  touched : (t : Touching) → t.from ≡ from → GoesTo ss last t.to → t.start ≡ start_of ss from → t.end ≡ start_of ss t.to → IsTouching ss s e t
  touched t f g b c = record {
    order = let o = in_order t.to g in omega arith;
    within = inside t.to g;
    start = b ∙ ap (start_of ss) (sym f);
    end = c;
    before = λ k m. a.before k (omega arith);
    meets = λ k m n. (begins t.to k g n, finishes t.to k g (omega arith) n);
    after = λ k m n. later t.to k g m n;
  }

module _ (ss : List Span) (s e : ℕ) (l : s ≤ e) (p q first before : Lengths) (z : p ≡ no_lengths) (w : q ≡ no_lengths)
    (f : first ≡ lengths_of (take (passed (λ x. nat_le s x.text) p ss) ss)) (g : before ≡ lengths_of (take (passed (λ x. nat_lt e x.text) q ss) ss)) where
  abbrev from : ℕ
  from = passed (λ x. nat_le s x.text) p ss

  abbrev last : ℕ
  last = passed (λ x. nat_lt e x.text) q ss

  both : AreEnds ss s e from last
  both = ends ss s e p q z w

  first_spans : first.spans ≡ from
  first_spans = ap (λ (x : Lengths). x.spans) f ∙ length-take-le from ss both.within

  before_spans : before.spans ≡ last
  before_spans = ap (λ (x : Lengths). x.spans) g ∙ length-take-le last ss both.few

  pub touching_all : None ≡ slice_get ss last → IsTouching ss s e (record { from = first.spans; to = before.spans; start = first.text; end = before.text })
  touching_all i = touched ss s e from last both l (record { from = first.spans; to = before.spans; start = first.text; end = before.text }) first_spans
      (inr (past_end ss last (sym i), before_spans)) (ap (λ (x : Lengths). x.text) f) (ap (λ (x : Lengths). x.text) g ∙ ap (start_of ss) (sym before_spans))

  module _ (x : Span) (n : ℕ) (i : Some x ≡ slice_get ss last) (k : n ≡ span_len x) where
    here : At ss last x
    here = at_index ss last x (sym i)

    end_is : before.text + n ≡ start_of ss (suc last)
    end_is = let h = ap text_sum here.more in let u = text_sum-append (take last ss) (x ∷ []) in let v = ap (λ (y : Lengths). y.text) g in omega arith

    pub spans_fit : length ss ≤ 2 ^ 40 → before.spans + 1 < 2 ^ 64
    spans_fit m = let u = before_spans in let v = both.few in omega arith

    pub text_fits : text_sum ss < 2 ^ 64 → before.text + n < 2 ^ 64
    text_fits m = let h = ap text_sum here.parts in let u = text_sum-append (take last ss) (x ∷ here.post) in let v = ap (λ (y : Lengths). y.text) g in omega arith

    pub touching_some : IsTouching ss s e (record { from = first.spans; to = before.spans + 1; start = first.text; end = before.text + n })
    touching_some =
        let to : before.spans + 1 ≡ suc last = (let u = before_spans in omega arith) in
        touched ss s e from last both l (record { from = first.spans; to = before.spans + 1; start = first.text; end = before.text + n }) first_spans
        (inl (here.within, to)) (ap (λ (y : Lengths). y.text) f) (end_is ∙ ap (start_of ss) (sym to))

-- ---- runs

-- a seek for index n goes over n spans
passed_index : (ss : List Span) (p : Lengths) (n : ℕ) → p ≡ no_lengths → n ≤ length ss → passed (λ x. nat_lt n x.spans) p ss ≡ n
passed_index ss p n z l = go (passed (λ x. nat_lt n x.spans) p ss) (start_stops (λ x. nat_lt n x.spans) p ss z)
  where
    low : (m : ℕ) → IsStop (λ x. nat_lt n x.spans) no_lengths ss m → m ≤ n
    low zero h = omega arith
    low (suc m) h =
        let e = stop_before (λ x. nat_lt n x.spans) ss (suc m) m h (omega arith) in
        let k : length (take (suc m) ss) ≤ n = grind (arith, nat_tests, e) in
        let t = length-take-le (suc m) ss h.within in omega arith

    high : (m : ℕ) → IsStop (λ x. nat_lt n x.spans) no_lengths ss m → n ≤ m
    high m h = elim (cases_lt m (length ss)) [
      | inl k ↦ (let e = stop_here_is (λ x. nat_lt n x.spans) ss m h k in
          let u : n < length (take (suc m) ss) = grind (arith, nat_tests, e) in
          let t = length-take-le (suc m) ss (omega arith) in omega arith)
      | inr k ↦ omega arith
    ]

    go : (m : ℕ) → IsStop (λ x. nat_lt n x.spans) no_lengths ss m → m ≡ n
    go m h = let a = low m h in let b = high m h in omega arith

-- the index of a cursor that was made and sought once
pub cursor_index : (ss items : List Span) (p : Lengths) (i n at : ℕ) → items ≡ ss → p ≡ no_lengths → i ≡ 0 → n ≤ length ss
    → at ≡ i + passed (λ x. nat_lt n x.spans) (place_behind move_place lengths_of_span p (take i items)) (drop i items) → at ≡ n
cursor_index ss items p i n at e z j l q =
    let a : i + passed (λ x. nat_lt n x.spans) (place_behind move_place lengths_of_span p (take i items)) (drop i items) ≡ 0 + passed (λ x. nat_lt n x.spans) p items =
    ap (λ (k : ℕ). k + passed (λ x. nat_lt n x.spans) (place_behind move_place lengths_of_span p (take k items)) (drop k items)) j in
    let b = passed_index items p n z (let f = ap length e in omega arith) in
    q ∙ a ∙ (omega arith)

-- one span more of a run
pub folds_more : (ss items : List Span) (from i at : ℕ) (s : Span) (so_far : List ℕ) → from ≤ i → items ≡ ss → at ≡ i → Some s ≡ slice_get items at
    → so_far ≡ folds_of (slice_range ss from i) → so_far ++ span_folds s ≡ folds_of (slice_range ss from (i + 1))
folds_more ss items from i at s so_far l e j g h =
    let k : slice_get ss i ≡ Some s = ap (λ (n : ℕ). slice_get ss n) (sym j) ∙ ap (λ (xs : List Span). slice_get xs at) (sym e) ∙ sym g in
    let a = at_index ss i s k in
    let more : slice_range ss from (i + 1) ≡ slice_range ss from i ++ s ∷ [] = between_more ss from i s l a.within ∙ ap (λ (x : Span). slice_range ss from i ++ x ∷ []) (get_or_from_slice_get ss i s s k) in
    ap (λ (ns : List ℕ). ns ++ span_folds s) h ∙ sym (ap folds_of more ∙ folds_of-append (slice_range ss from i) (s ∷ []) ∙ ap (λ (ns : List ℕ). folds_of (slice_range ss from i) ++ ns) (folds_of-one s))

pub none_yet : (ss : List Span) (i : ℕ) (ns : List ℕ) → ns ≡ [] → ns ≡ folds_of (slice_range ss i i)
none_yet ss i ns e = let z : i - i ≡ 0 = omega arith in e ∙ sym (ap (λ (n : ℕ). folds_of (take n (drop i ss))) z)

-- the cursor goes on by one
pub next_index : (items : List Span) (at i next : ℕ) (s : Span) → at ≡ i → Some s ≡ slice_get items at → next ≡ min (at + 1) (length items) → next ≡ i + 1
next_index items at i next s e g h = let w = (at_index items at s (sym g)).within in grind (arith, e, h, w)
