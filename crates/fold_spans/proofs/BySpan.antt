-- Places by the span that holds them.
use Rattle.std.proofs.Common.{◌≡◌, ◌⊎◌, inl, inr, ℕ, zero, suc, ◌+◌, ◌-◌, ◌≤◌, ◌<◌, Bool, true, false, cond, eqb, List, [], ◌∷◌, ◌++◌, take, drop, length, length-append, refl, sym, ap, ◌∙◌, arith, append_assoc}
use Rattle.std.specs.Prelude.{nat_le, nat_lt}
use Rattle.std.proofs.lemmas.Bool.{cases_Bool}
use Rattle.std.proofs.lemmas.Bool.Decides.{nat_tests}
use Rattle.fold_spans.specs.Marks.{Mark, shown_len, begins_inner, shown_place, text_place}
use Rattle.tree_cursor.specs.declared.traits.Bias.{Bias}
use Rattle.fold_spans.specs.Marks.Mark.{Plain, First, Inner}
use Rattle.tree_cursor.specs.declared.traits.Bias.TheVariants.{Left, Right}
use Rattle.fold_spans.specs.Spans.{repeat_mark, ellipsis_marks, span_marks, marks_of, text_sum, shown_sum, span_len, shown_span, IsSpan, AreSpans}
use Rattle.fold_spans.specs.Laws.{shown_in, text_in, ShownPlaceBySpan, TextPlaceBySpan}
use Rattle.fold_spans.specs.declared.span.Span.{Span}
use Rattle.fold_spans.specs.declared.span.Span.TheVariants.{Open, Fold, Waiting}

-- ---- marks of spans

pub marks_of-append : (ss ts : List Span) → marks_of (ss ++ ts) ≡ marks_of ss ++ marks_of ts
marks_of-append [] ts = refl
marks_of-append (s ∷ ss) ts = ap (λ (ms : List Mark). span_marks s ++ ms) (marks_of-append ss ts) ∙ sym (append_assoc (span_marks s) (marks_of ss) (marks_of ts))

shown_len-append : (ms ns : List Mark) → shown_len (ms ++ ns) ≡ shown_len ms + shown_len ns
shown_len-append [] ns = omega arith
shown_len-append (m ∷ ms) ns = let e = shown_len-append ms ns in omega arith

plain_len : (n : ℕ) → shown_len (repeat_mark n Plain) ≡ n
plain_len zero = refl
plain_len (suc n) = let e = plain_len n in omega arith

inner_len : (n : ℕ) → shown_len (repeat_mark n Inner) ≡ 0
inner_len zero = refl
inner_len (suc n) = let e = inner_len n in omega arith

ellipsis_len : (n : ℕ) → 0 < n → shown_len (ellipsis_marks n) ≡ 3
ellipsis_len zero l = absurd (omega arith)
ellipsis_len (suc n) l = let e = inner_len n in omega arith

pub span_shown : (s : Span) → IsSpan s → shown_len (span_marks s) ≡ shown_span s
span_shown (Open n) l = plain_len n
span_shown (Fold n fs) l = ellipsis_len n l
span_shown (Waiting fs) l = refl

pub spans_shown : (ss : List Span) → AreSpans ss → shown_len (marks_of ss) ≡ shown_sum ss
spans_shown [] a = refl
spans_shown (s ∷ ss) a = let e = span_shown s a.0 in let f = spans_shown ss a.1 in let g = shown_len-append (span_marks s) (marks_of ss) in omega arith

length_repeat : (n : ℕ) (m : Mark) → length (repeat_mark n m) ≡ n
length_repeat zero m = refl
length_repeat (suc n) m = ap suc (length_repeat n m)

length_ellipsis : (n : ℕ) → length (ellipsis_marks n) ≡ n
length_ellipsis zero = refl
length_ellipsis (suc n) = ap suc (length_repeat n Inner)

length_span : (s : Span) → length (span_marks s) ≡ span_len s
length_span (Open n) = length_repeat n Plain
length_span (Fold n fs) = length_ellipsis n
length_span (Waiting fs) = refl

-- spans have a mark for each byte
pub length_marks_of : (ss : List Span) → length (marks_of ss) ≡ text_sum ss
length_marks_of [] = refl
length_marks_of (s ∷ ss) = let e = length_span s in let f = length_marks_of ss in let g = length-append (span_marks s) (marks_of ss) in omega arith

take_past : (ms ns : List Mark) (n : ℕ) → take (length ms + n) (ms ++ ns) ≡ ms ++ take n ns
take_past [] ns n = let z : 0 + n ≡ n = omega arith in ap (λ (k : ℕ). take k ns) z
take_past (m ∷ ms) ns n = let z : suc (length ms) + n ≡ suc (length ms + n) = omega arith in rw z (ap (λ (x : List Mark). m ∷ x) (take_past ms ns n))

drop_past : (ms ns : List Mark) (n : ℕ) → drop (length ms + n) (ms ++ ns) ≡ drop n ns
drop_past [] ns n = let z : 0 + n ≡ n = omega arith in ap (λ (k : ℕ). drop k ns) z
drop_past (m ∷ ms) ns n = let z : suc (length ms) + n ≡ suc (length ms + n) = omega arith in rw z (drop_past ms ns n)

-- ---- k marks into a span

take_repeat : (n k : ℕ) (m : Mark) (rest : List Mark) → k ≤ n → take k (repeat_mark n m ++ rest) ≡ repeat_mark k m
take_repeat n zero m rest l = refl
take_repeat zero (suc k) m rest l = absurd (omega arith)
take_repeat (suc n) (suc k) m rest l = ap (λ (x : List Mark). m ∷ x) (take_repeat n k m rest (omega arith))

drop_repeat : (n k : ℕ) (m : Mark) (rest : List Mark) → k ≤ n → drop k (repeat_mark n m ++ rest) ≡ repeat_mark (n - k) m ++ rest
drop_repeat n zero m rest l = let z : n - 0 ≡ n = omega arith in rw z refl
drop_repeat zero (suc k) m rest l = absurd (omega arith)
drop_repeat (suc n) (suc k) m rest l = let z : suc n - suc k ≡ n - k = omega arith in rw z (drop_repeat n k m rest (omega arith))

-- spans begin with no Inner mark
pub starts_open : (ss : List Span) → AreSpans ss → begins_inner (marks_of ss) ≡ false
starts_open [] a = refl
starts_open (Open zero ∷ ss) a = starts_open ss a.1
starts_open (Open (suc n) ∷ ss) a = refl
starts_open (Fold zero fs ∷ ss) a = starts_open ss a.1
starts_open (Fold (suc n) fs ∷ ss) a = refl
starts_open (Waiting fs ∷ ss) a = starts_open ss a.1

-- bytes shown before place k of a ⋯ of n bytes
in_ellipsis : (n k : ℕ) (rest : List Mark) → 0 < n → k ≤ n → shown_len (take k (ellipsis_marks n ++ rest)) ≡ cond (eqb k 0) 0 3
in_ellipsis zero k rest l m = absurd (omega arith)
in_ellipsis (suc n) zero rest l m = refl
in_ellipsis (suc n) (suc k) rest l m =
    let e : eqb (suc k) 0 ≡ false = grind (arith, nat_tests) in
    let f = inner_len k in
    rw e (ap (λ (x : List Mark). 3 + shown_len x) (take_repeat n k Inner rest (omega arith)) ∙ (let g : 3 + shown_len (repeat_mark k Inner) ≡ 3 = omega arith in g))

-- whether place k of it is inside
inside_ellipsis : (n k : ℕ) (rest : List Mark) → 0 < n → k ≤ n → begins_inner rest ≡ false → begins_inner (drop k (ellipsis_marks n ++ rest)) ≡ cond (eqb k 0) false (cond (nat_le n k) false true)
inside_ellipsis zero k rest l m b = absurd (omega arith)
inside_ellipsis (suc n) zero rest l m b = refl
inside_ellipsis (suc n) (suc k) rest l m b =
    let e : eqb (suc k) 0 ≡ false = grind (arith, nat_tests) in
    rw e (ap begins_inner (drop_repeat n k Inner rest (omega arith)) ∙ go (n - k) refl)
  where
    go : (d : ℕ) → n - k ≡ d → begins_inner (repeat_mark d Inner ++ rest) ≡ cond (nat_le (suc n) (suc k)) false true
    go zero q = let x : nat_le (suc n) (suc k) ≡ true = (let y : n ≤ k = omega arith in grind (arith, nat_tests, y)) in rw x b
    go (suc d) q = let x : nat_le (suc n) (suc k) ≡ false = (let y : k < n = omega arith in grind (arith, nat_tests, y)) in rw x refl

in_plain : (n k : ℕ) (rest : List Mark) → k ≤ n → shown_len (take k (repeat_mark n Plain ++ rest)) ≡ k
in_plain n k rest m = ap shown_len (take_repeat n k Plain rest m) ∙ plain_len k

inside_plain : (n k : ℕ) (rest : List Mark) → k ≤ n → begins_inner rest ≡ false → begins_inner (drop k (repeat_mark n Plain ++ rest)) ≡ false
inside_plain n k rest m b = ap begins_inner (drop_repeat n k Plain rest m) ∙ go (n - k)
  where
    go : (d : ℕ) → begins_inner (repeat_mark d Plain ++ rest) ≡ false
    go zero = b
    go (suc d) = refl

module _ (n k before : ℕ) (rest : List Mark) (l : 0 < n) (m : k ≤ n) (b : begins_inner rest ≡ false) where
  ellipsis_right : before + shown_len (take k (ellipsis_marks n ++ rest)) ≡ cond (eqb k 0) before (before + 3)
  ellipsis_right = ap (λ (x : ℕ). before + x) (in_ellipsis n k rest l m) ∙ go (eqb k 0)
    where
      go : (c : Bool) → before + cond c 0 3 ≡ cond c before (before + 3)
      go true = omega arith
      go false = refl

  ellipsis_left : cond (begins_inner (drop k (ellipsis_marks n ++ rest))) (before + shown_len (take k (ellipsis_marks n ++ rest)) - 3) (before + shown_len (take k (ellipsis_marks n ++ rest)))
      ≡ cond (nat_le n k) (before + 3) before
  ellipsis_left = ap (λ (x : Bool). cond x (before + shown_len (take k (ellipsis_marks n ++ rest)) - 3) (before + shown_len (take k (ellipsis_marks n ++ rest)))) (inside_ellipsis n k rest l m b)
      ∙ ap (λ (x : ℕ). cond (cond (eqb k 0) false (cond (nat_le n k) false true)) (before + x - 3) (before + x)) (in_ellipsis n k rest l m) ∙ go k l
    where
      go : (k : ℕ) → 0 < n → cond (cond (eqb k 0) false (cond (nat_le n k) false true)) (before + cond (eqb k 0) 0 3 - 3) (before + cond (eqb k 0) 0 3) ≡ cond (nat_le n k) (before + 3) before
      go zero p = let e : nat_le n 0 ≡ false = grind (arith, nat_tests, p) in rw e (omega arith)
      go (suc k) p = let e : eqb (suc k) 0 ≡ false = grind (arith, nat_tests) in rw e (elim (nat_le n (suc k)) as (λ c. cond (cond c false true) (before + 3 - 3) (before + 3) ≡ cond c (before + 3) before) [ true ↦ refl | false ↦ omega arith ])

-- the shown place of a place by the marks before it and those after it
abbrev side : List Mark → List Mark → ℕ → Bias → ℕ
side front back before Right = before + shown_len front
side front back before Left = cond (begins_inner back) (before + shown_len front - 3) (before + shown_len front)

in_span : (s : Span) (k before : ℕ) (rest : List Mark) (b : Bias) → IsSpan s → k ≤ span_len s → begins_inner rest ≡ false
    → side (take k (span_marks s ++ rest)) (drop k (span_marks s ++ rest)) before b ≡ shown_in s before k b
in_span (Open n) k before rest Right l m e = ap (λ (x : ℕ). before + x) (in_plain n k rest m)
in_span (Open n) k before rest Left l m e =
    ap (λ (c : Bool). cond c (before + shown_len (take k (repeat_mark n Plain ++ rest)) - 3) (before + shown_len (take k (repeat_mark n Plain ++ rest)))) (inside_plain n k rest m e)
    ∙ ap (λ (x : ℕ). before + x) (in_plain n k rest m)
in_span (Fold n fs) k before rest Right l m e = ellipsis_right n k before rest l m e
in_span (Fold n fs) k before rest Left l m e = ellipsis_left n k before rest l m e
in_span (Waiting fs) k before rest Right l m e = let z : k ≡ 0 = omega arith in rw z (omega arith)
in_span (Waiting fs) k before rest Left l m e = let z : k ≡ 0 = omega arith in rw (z, e) (omega arith)

as_side : (ms : List Mark) (o : ℕ) (b : Bias) → shown_place ms o b ≡ side (take o ms) (drop o ms) 0 b
as_side ms o Right = omega arith
as_side ms o Left = ap (λ (x : ℕ). cond (begins_inner (drop o ms)) (x - 3) x) (omega arith)

side_past : (ms front back : List Mark) (before all : ℕ) (b : Bias) → before + shown_len ms ≡ all → side (ms ++ front) back before b ≡ side front back all b
side_past ms front back before all Right e = let a = shown_len-append ms front in omega arith
side_past ms front back before all Left e = let a = shown_len-append ms front in ap (λ (x : ℕ). cond (begins_inner back) (x - 3) x) (omega arith)

pub shown_place_by_span : ShownPlaceBySpan
shown_place_by_span pre post s k b p q l m =
    as_side (marks_of (pre ++ s ∷ post)) (text_sum pre + k) b
    ∙ ap (λ (x : List Mark). side x (drop (text_sum pre + k) (marks_of (pre ++ s ∷ post))) 0 b) taken
    ∙ ap (λ (x : List Mark). side (head ++ take k tail) x 0 b) dropped
    ∙ side_past head (take k tail) (drop k tail) 0 (shown_sum pre) b (let e = spans_shown pre p in omega arith)
    ∙ in_span s k (shown_sum pre) (marks_of post) b l m (starts_open post q)
  where
    head : List Mark
    head = marks_of pre

    tail : List Mark
    tail = span_marks s ++ marks_of post

    whole : marks_of (pre ++ s ∷ post) ≡ head ++ tail
    whole = marks_of-append pre (s ∷ post)

    taken : take (text_sum pre + k) (marks_of (pre ++ s ∷ post)) ≡ head ++ take k tail
    taken = ap (take (text_sum pre + k)) whole ∙ ap (λ (n : ℕ). take (n + k) (head ++ tail)) (sym (length_marks_of pre)) ∙ take_past head tail k

    dropped : drop (text_sum pre + k) (marks_of (pre ++ s ∷ post)) ≡ drop k tail
    dropped = ap (drop (text_sum pre + k)) whole ∙ ap (λ (n : ℕ). drop (n + k) (head ++ tail)) (sym (length_marks_of pre)) ∙ drop_past head tail k

-- ---- the other way

over_open : (n d : ℕ) (rest : List Mark) (b : Bias) → text_place (repeat_mark n Plain ++ rest) (n + d) b ≡ n + text_place rest d b
over_open zero d rest b = let z : 0 + d ≡ d = omega arith in rw z (omega arith)
over_open (suc n) d rest b =
    let x : eqb (suc n + d) 0 ≡ false = grind (arith, nat_tests) in
    let y : suc n + d - 1 ≡ n + d = omega arith in
    let w = over_open n d rest b in
    rw x (rw y (ap suc w ∙ (let v : suc (n + text_place rest d b) ≡ suc n + text_place rest d b = omega arith in v)))

over_inner : (n d : ℕ) (rest : List Mark) (b : Bias) → text_place (repeat_mark n Inner ++ rest) d b ≡ n + text_place rest d b
over_inner zero d rest b = omega arith
over_inner (suc n) d rest b = let w = over_inner n d rest b in omega arith

over_first : (b : Bias) (ns : List Mark) (m : ℕ) → text_place (First ∷ ns) (3 + m) b ≡ suc (text_place ns m b)
over_first Left ns m = let x : nat_lt (3 + m) 3 ≡ false = grind (arith, nat_tests) in let y : 3 + m - 3 ≡ m = omega arith in rw x (ap (λ (z : ℕ). suc (text_place ns z Left)) y)
over_first Right ns m = let x : eqb (3 + m) 0 ≡ false = grind (arith, nat_tests) in let y : 3 + m - 3 ≡ m = omega arith in rw x (ap (λ (z : ℕ). suc (text_place ns z Right)) y)

over_span : (s : Span) (d : ℕ) (rest : List Mark) (b : Bias) → IsSpan s → text_place (span_marks s ++ rest) (shown_span s + d) b ≡ span_len s + text_place rest d b
over_span (Open n) d rest b l = over_open n d rest b
over_span (Fold zero fs) d rest b l = absurd (omega arith)
over_span (Fold (suc n) fs) d rest b l = over_first b (repeat_mark n Inner ++ rest) d ∙ ap suc (over_inner n d rest b) ∙ (let v : suc (n + text_place rest d b) ≡ suc n + text_place rest d b = omega arith in v)
over_span (Waiting fs) d rest b l = let z : 0 + d ≡ d = omega arith in rw z (omega arith)

-- a place past a run of spans
pub past_spans : (pre : List Span) (ms : List Mark) (d : ℕ) (b : Bias) → AreSpans pre → text_place (marks_of pre ++ ms) (shown_sum pre + d) b ≡ text_sum pre + text_place ms d b
past_spans [] ms d b a = let z : 0 + d ≡ d = omega arith in rw z (omega arith)
past_spans (s ∷ pre) ms d b a =
    let y : shown_span s + shown_sum pre + d ≡ shown_span s + (shown_sum pre + d) = omega arith in
    ap (λ (z : ℕ). text_place ((span_marks s ++ marks_of pre) ++ ms) z b) y
    ∙ ap (λ (z : List Mark). text_place z (shown_span s + (shown_sum pre + d)) b) (append_assoc (span_marks s) (marks_of pre) ms)
    ∙ over_span s (shown_sum pre + d) (marks_of pre ++ ms) b a.0
    ∙ (let w = past_spans pre ms d b a.1 in let v : span_len s + text_place (marks_of pre ++ ms) (shown_sum pre + d) b ≡ span_len s + text_sum pre + text_place ms d b = omega arith in v)

-- at no shown byte, before what begins with no Inner mark
text_none : (ms : List Mark) (b : Bias) → begins_inner ms ≡ false → text_place ms 0 b ≡ 0
text_none [] b e = refl
text_none (Plain ∷ ms) b e = refl
text_none (First ∷ ms) Left e = refl
text_none (First ∷ ms) Right e = refl
text_none (Inner ∷ ms) b e = cc

inner_none : (n : ℕ) (rest : List Mark) (b : Bias) → begins_inner rest ≡ false → text_place (repeat_mark n Inner ++ rest) 0 b ≡ n
inner_none zero rest b e = text_none rest b e
inner_none (suc n) rest b e = ap suc (inner_none n rest b e)

open_text : (n k : ℕ) (rest : List Mark) (b : Bias) → k ≤ n → begins_inner rest ≡ false → text_place (repeat_mark n Plain ++ rest) k b ≡ k
open_text zero zero rest b l e = text_none rest b e
open_text zero (suc k) rest b l e = absurd (omega arith)
open_text (suc n) zero rest b l e = refl
open_text (suc n) (suc k) rest b l e =
    let x : eqb (suc k) 0 ≡ false = grind (arith, nat_tests) in
    let y : suc k - 1 ≡ k = omega arith in
    rw (x, y) (ap suc (open_text n k rest b (omega arith) e))

ellipsis_text_left : (n k : ℕ) (rest : List Mark) → 0 < n → k ≤ 3 → begins_inner rest ≡ false → text_place (ellipsis_marks n ++ rest) k Left ≡ cond (nat_lt k 3) 0 n
ellipsis_text_left zero k rest l m e = absurd (omega arith)
ellipsis_text_left (suc n) k rest l m e = go (cases_Bool (nat_lt k 3))
  where
    go : (nat_lt k 3 ≡ true) ⊎ (nat_lt k 3 ≡ false) → cond (nat_lt k 3) 0 (suc (text_place (repeat_mark n Inner ++ rest) (k - 3) Left)) ≡ cond (nat_lt k 3) 0 (suc n)
    go (inl x) = rw x refl
    go (inr x) = let y : k - 3 ≡ 0 = omega arith in rw x (ap suc (ap (λ (z : ℕ). text_place (repeat_mark n Inner ++ rest) z Left) y ∙ inner_none n rest Left e))

ellipsis_text_right : (n k : ℕ) (rest : List Mark) → 0 < n → k ≤ 3 → begins_inner rest ≡ false → text_place (ellipsis_marks n ++ rest) k Right ≡ cond (eqb k 0) 0 n
ellipsis_text_right zero k rest l m e = absurd (omega arith)
ellipsis_text_right (suc n) k rest l m e = let y : k - 3 ≡ 0 = omega arith in ap (λ (z : ℕ). cond (eqb k 0) 0 (suc z)) (ap (λ (z : ℕ). text_place (repeat_mark n Inner ++ rest) z Right) y ∙ inner_none n rest Right e)

add_cond : (c : Bool) (x n : ℕ) → x + cond c 0 n ≡ cond c x (x + n)
add_cond true x n = omega arith
add_cond false x n = refl

text_in_span : (s : Span) (k before : ℕ) (rest : List Mark) (b : Bias) → IsSpan s → k ≤ shown_span s → begins_inner rest ≡ false
    → before + text_place (span_marks s ++ rest) k b ≡ text_in s before k b
text_in_span (Open n) k before rest b l m e = ap (λ (x : ℕ). before + x) (open_text n k rest b m e)
text_in_span (Fold n fs) k before rest Left l m e = ap (λ (x : ℕ). before + x) (ellipsis_text_left n k rest l m e) ∙ add_cond (nat_lt k 3) before n
text_in_span (Fold n fs) k before rest Right l m e = ap (λ (x : ℕ). before + x) (ellipsis_text_right n k rest l m e) ∙ add_cond (eqb k 0) before n
text_in_span (Waiting fs) k before rest b l m e = let z : k ≡ 0 = omega arith in rw (z, text_none rest b e) (omega arith)

pub text_place_by_span : TextPlaceBySpan
text_place_by_span pre post s k b p q l m =
    ap (λ (ms : List Mark). text_place ms (shown_sum pre + k) b) (marks_of-append pre (s ∷ post)) ∙ past_spans pre (span_marks s ++ marks_of post) k b p
    ∙ text_in_span s k (text_sum pre) (marks_of post) b l m (starts_open post q)
