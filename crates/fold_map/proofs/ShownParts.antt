-- What is shown, span by span.
use Rattle.std.proofs.Common.{◌≡◌, ℕ, zero, suc, ◌+◌, ◌-◌, ◌≤◌, ◌<◌, Bool, true, false, List, [], ◌∷◌, ◌++◌, length, take, drop, Some, refl, sym, ap, ◌∙◌, subst, arith, append_assoc}
use Rattle.std.specs.Prelude.{slice_get, slice_range}
use Rattle.std.proofs.lemmas.List.{append-nil, length-drop, take-append-drop, drop-drop, drop_more, take_more, drop_all}
use Rattle.std.proofs.lemmas.Option.{slice_get_within, get_or_from_slice_get}
use Rattle.op_model.specs.Edits.{is_boundary}
use Rattle.fold_spans.specs.Marks.{Range, Mark, marks, ellipsis, show, shown_text}
use Rattle.fold_spans.specs.Marks.Mark.{Plain, Inner}
use Rattle.fold_spans.specs.Spans.{span_len, repeat_mark, ellipsis_marks, span_marks, marks_of, text_sum, AreSpans}
use Rattle.fold_spans.specs.declared.span.Span.{Span}
use Rattle.fold_spans.specs.declared.span.Span.TheVariants.{Open, Fold, Waiting}
use Rattle.fold_spans.proofs.BySpan.{length_marks_of, starts_open}
use Rattle.fold_spans.proofs.Sums.{text_sum-append}
use Rattle.op_model.proofs.texts.WholeTexts.{boundary_of}
use Rattle.fold_map.specs.Passed.{MayPass, IsPassed}
use Rattle.fold_map.proofs.Cuts.{IsCut, AreCut, boundary_zero, boundary_end, boundary_drop, cut_marks, cut_rest, cut_here}

-- ---- parts of a text

take_none : (n : ℕ) (xs : List ℕ) → xs ≡ [] → take n xs ≡ xs
take_none zero xs e = sym e
take_none (suc n) [] e = refl
take_none (suc n) (x ∷ xs) e = cc

take_add : (k a n : ℕ) (xs : List ℕ) → k ≡ a + n → take k xs ≡ take a xs ++ take n (drop a xs)
take_add k zero n xs e = let f : k ≡ n = omega arith in ap (λ (m : ℕ). take m xs) f
take_add zero (suc a) n xs e = absurd (omega arith)
take_add (suc k) (suc a) n [] e = sym (take_none n [] refl)
take_add (suc k) (suc a) n (x ∷ xs) e = ap (λ (ys : List ℕ). x ∷ ys) (take_add k a n xs (omega arith))

slice_more : (bs : List ℕ) (from at n : ℕ) → from ≤ at → slice_range bs from (at + n) ≡ slice_range bs from at ++ take n (drop at bs)
slice_more bs from at n l =
    let e : at + n - from ≡ (at - from) + n = omega arith in
    let f : from + (at - from) ≡ at = omega arith in
    take_add (at + n - from) (at - from) n (drop from bs) e
    ∙ ap (λ (ys : List ℕ). take (at - from) (drop from bs) ++ take n ys) (drop-drop (at - from) from bs ∙ ap (λ (m : ℕ). drop m bs) f)

slice_none : (bs : List ℕ) (at : ℕ) → slice_range bs at at ≡ []
slice_none bs at = let e : at - at ≡ 0 = omega arith in ap (λ (m : ℕ). take m (drop at bs)) e

-- ---- what is shown at a span

show_plain : (n : ℕ) (ns : List Mark) (bs : List ℕ) → n ≤ length bs → show (repeat_mark n Plain ++ ns) bs ≡ take n bs ++ show ns (drop n bs)
show_plain zero ns bs l = refl
show_plain (suc n) ns [] l = absurd (omega arith)
show_plain (suc n) ns (b ∷ bs) l = ap (λ (ys : List ℕ). b ∷ ys) (show_plain n ns bs (omega arith))

show_inner : (n : ℕ) (ns : List Mark) (bs : List ℕ) → n ≤ length bs → show (repeat_mark n Inner ++ ns) bs ≡ show ns (drop n bs)
show_inner zero ns bs l = refl
show_inner (suc n) ns [] l = absurd (omega arith)
show_inner (suc n) ns (b ∷ bs) l = show_inner n ns bs (omega arith)

show_fold : (n : ℕ) (ns : List Mark) (bs : List ℕ) → 0 < n → n ≤ length bs → show (ellipsis_marks n ++ ns) bs ≡ ellipsis ++ show ns (drop n bs)
show_fold zero ns bs s l = absurd (omega arith)
show_fold (suc n) ns [] s l = absurd (omega arith)
show_fold (suc n) ns (b ∷ bs) s l = ap (λ (ys : List ℕ). ellipsis ++ ys) (show_inner n ns bs (omega arith))

cut_inner : (n : ℕ) (ns : List Mark) (bs : List ℕ) → IsCut true (repeat_mark n Inner ++ ns) bs → IsCut true ns (drop n bs)
cut_inner zero ns bs c = c
cut_inner (suc n) ns [] c = absurd c
cut_inner (suc n) ns (b ∷ bs) c = cut_inner n ns bs c

cut_fold : (n : ℕ) (ns : List Mark) (p : Bool) (bs : List ℕ) → 0 < n → IsCut p (ellipsis_marks n ++ ns) bs → (is_boundary bs 0 ≡ true) × IsCut true ns (drop n bs)
cut_fold zero ns p bs s c = absurd (omega arith)
cut_fold (suc n) ns p [] s c = absurd c
cut_fold (suc n) ns p (b ∷ bs) s c = (boundary_zero b bs ∙ c.0, cut_inner n ns bs c.1)

length_span : (s : Span) → length (span_marks s) ≡ span_len s
length_span s = ap length (sym (append-nil (span_marks s))) ∙ length_marks_of (s ∷ []) ∙ (omega arith)

pub length_marks : (rs : List Range) (i n : ℕ) → length (marks rs i n) ≡ n
length_marks rs i zero = refl
length_marks rs i (suc n) = ap suc (length_marks rs (suc i) n)

pub length_spans : (ss : List Span) (rs : List Range) (n : ℕ) → marks_of ss ≡ marks rs 0 n → text_sum ss ≡ n
length_spans ss rs n e = sym (length_marks_of ss) ∙ ap length e ∙ length_marks rs 0 n

-- ---- a walk over spans

-- `done` is what is shown for the spans before span i, without the bytes from..at, which are shown as they are
pub record Upto (bs total : List ℕ) (ss : List Span) (i from at : ℕ) (done : List ℕ) : Type 0 where
  pub place : at ≡ text_sum (take i ss)
  pub order : from ≤ at
  pub begun : is_boundary bs from ≡ true
  pub after : Bool
  pub cut : IsCut after (marks_of (drop i ss)) (drop at bs)
  pub spans : AreSpans (drop i ss)
  pub rest : done ++ (slice_range bs from at ++ show (marks_of (drop i ss)) (drop at bs)) ≡ total

pub upto_start : (bs : List ℕ) (rs : List Range) (ss : List Span) (done : List ℕ) → AreSpans ss → marks_of ss ≡ marks rs 0 (length bs) → AreCut bs rs → is_boundary bs 0 ≡ true → done ≡ [] → Upto bs (shown_text rs bs) ss 0 0 0 done
upto_start bs rs ss done a e c z d =
    let cut : IsCut false (marks_of ss) bs = subst (λ (ms : List Mark). IsCut false ms bs) (sym e) (cut_marks bs rs c) in
    record {
      place = refl;
      order = omega arith;
      begun = z;
      after = false;
      cut = cut;
      spans = a;
      rest = ap (λ (ys : List ℕ). ys ++ (slice_range bs 0 0 ++ show (marks_of ss) bs)) d ∙ ap (λ (ys : List ℕ). ys ++ show (marks_of ss) bs) (slice_none bs 0) ∙ ap (λ (ms : List Mark). show ms bs) e;
    }

module _ (bs total : List ℕ) (ss : List Span) (i from at : ℕ) (done : List ℕ) (u : Upto bs total ss i from at done) (whole : text_sum ss ≡ length bs) where
  module _ (s : Span) (g : slice_get ss i ≡ Some s) where
    parts : drop i ss ≡ s ∷ drop (i + 1) ss
    parts = drop_more ss i s (slice_get_within ss i s g) ∙ ap (λ (x : Span). x ∷ drop (i + 1) ss) (get_or_from_slice_get ss i s s g)

    next_place : at + span_len s ≡ text_sum (take (i + 1) ss)
    next_place =
        let t : take (i + 1) ss ≡ take i ss ++ s ∷ [] = take_more ss i s (slice_get_within ss i s g) ∙ ap (λ (x : Span). take i ss ++ x ∷ []) (get_or_from_slice_get ss i s s g) in
        let a = text_sum-append (take i ss) (s ∷ []) in
        let b = ap text_sum t in
        let p = u.place in omega arith

    within : at + span_len s ≤ length bs
    within =
        let a = text_sum-append (take i ss) (drop i ss) in
        let b = ap text_sum (take-append-drop i ss) in
        let c = ap text_sum parts in
        let p = u.place in omega arith

    room : span_len s ≤ length (drop at bs)
    room = let w = within in let l = length-drop at bs in omega arith

    spans_here : AreSpans (s ∷ drop (i + 1) ss)
    spans_here = subst AreSpans parts u.spans

    cut_at : IsCut u.after (span_marks s ++ marks_of (drop (i + 1) ss)) (drop at bs)
    cut_at = subst (λ (xs : List Span). IsCut u.after (marks_of xs) (drop at bs)) parts u.cut

    moved : drop (span_len s) (drop at bs) ≡ drop (at + span_len s) bs
    moved = drop-drop (span_len s) at bs

    shown_at_spans : done ++ (slice_range bs from at ++ show (span_marks s ++ marks_of (drop (i + 1) ss)) (drop at bs)) ≡ total
    shown_at_spans = ap (λ (xs : List Span). done ++ (slice_range bs from at ++ show (marks_of xs) (drop at bs))) (sym parts) ∙ u.rest

    -- a span whose bytes are shown as they are
    pub upto_plain : span_marks s ≡ repeat_mark (span_len s) Plain → Upto bs total ss (i + 1) from (at + span_len s) done
    upto_plain e =
        let n : ℕ = span_len s in
        let ms : List Mark = marks_of (drop (i + 1) ss) in
        let q = cut_rest (span_marks s) ms u.after (drop at bs) cut_at in
        let here : drop (length (span_marks s)) (drop at bs) ≡ drop (at + n) bs = ap (λ (k : ℕ). drop k (drop at bs)) (length_span s) ∙ moved in
        record {
          place = next_place;
          order = let o = u.order in omega arith;
          begun = u.begun;
          after = q.0;
          cut = subst (λ (ys : List ℕ). IsCut q.0 ms ys) here q.1;
          spans = spans_here.1;
          rest = ap (λ (ys : List ℕ). done ++ (ys ++ show ms (drop (at + n) bs))) (slice_more bs from at n u.order)
              ∙ ap (λ (ys : List ℕ). done ++ ys) (append_assoc (slice_range bs from at) (take n (drop at bs)) (show ms (drop (at + n) bs)))
              ∙ ap (λ (ys : List ℕ). done ++ (slice_range bs from at ++ (take n (drop at bs) ++ show ms ys))) (sym moved)
              ∙ ap (λ (ys : List ℕ). done ++ (slice_range bs from at ++ ys)) (sym (show_plain n ms (drop at bs) room))
              ∙ ap (λ (xs : List Mark). done ++ (slice_range bs from at ++ show (xs ++ ms) (drop at bs))) (sym e)
              ∙ shown_at_spans;
        }

  module _ (n : ℕ) (fs : List ℕ) (g : slice_get ss i ≡ Some (Fold n fs)) where
    cut_here_at : (is_boundary (drop at bs) 0 ≡ true) × IsCut true (marks_of (drop (i + 1) ss)) (drop n (drop at bs))
    cut_here_at = cut_fold n (marks_of (drop (i + 1) ss)) u.after (drop at bs) (spans_here (Fold n fs) g).0 (cut_at (Fold n fs) g)

    pub upto_boundary : is_boundary bs at ≡ true
    upto_boundary = let w = within (Fold n fs) g in sym (boundary_drop at bs (omega arith)) ∙ cut_here_at.0

    pub upto_fold : (more : List ℕ) → more ≡ (done ++ slice_range bs from at) ++ ellipsis → Upto bs total ss (i + 1) (at + n) (at + n) more
    upto_fold more e =
        let ms : List Mark = marks_of (drop (i + 1) ss) in
        let w : at + n ≤ length bs = within (Fold n fs) g in
        let here : drop n (drop at bs) ≡ drop (at + n) bs = moved (Fold n fs) g in
        let cut : IsCut true ms (drop (at + n) bs) = subst (λ (ys : List ℕ). IsCut true ms ys) here cut_here_at.1 in
        record {
          place = next_place (Fold n fs) g;
          order = omega arith;
          begun = sym (boundary_drop (at + n) bs w) ∙ cut_here ms (drop (at + n) bs) cut (starts_open (drop (i + 1) ss) (spans_here (Fold n fs) g).1);
          after = true;
          cut = cut;
          spans = (spans_here (Fold n fs) g).1;
          rest = ap (λ (ys : List ℕ). more ++ (ys ++ show ms (drop (at + n) bs))) (slice_none bs (at + n))
              ∙ ap (λ (ys : List ℕ). ys ++ show ms (drop (at + n) bs)) e
              ∙ append_assoc (done ++ slice_range bs from at) ellipsis (show ms (drop (at + n) bs))
              ∙ append_assoc done (slice_range bs from at) (ellipsis ++ show ms (drop (at + n) bs))
              ∙ ap (λ (ys : List ℕ). done ++ (slice_range bs from at ++ (ellipsis ++ show ms ys))) (sym here)
              ∙ ap (λ (ys : List ℕ). done ++ (slice_range bs from at ++ ys)) (sym (show_fold n ms (drop at bs) (spans_here (Fold n fs) g).0 (room (Fold n fs) g)))
              ∙ shown_at_spans (Fold n fs) g;
        }

  -- one span more
  pub upto_may : (s : Span) → slice_get ss i ≡ Some s → MayPass s bs at
  upto_may (Open n) g = tt
  upto_may (Fold n fs) g = boundary_of bs at (upto_boundary n fs g)
  upto_may (Waiting fs) g = tt

  pub upto_room : (s : Span) → slice_get ss i ≡ Some s → at + span_len s ≤ length bs
  upto_room s g = within s g

  pub upto_next : (s : Span) (new : List ℕ) (next : ℕ) → slice_get ss i ≡ Some s → IsPassed s bs from at done new next → Upto bs total ss (i + 1) next (at + span_len s) new
  upto_next (Open n) new next g p = subst (λ (k : ℕ). Upto bs total ss (i + 1) k (at + n) new) (sym p.0) (subst (Upto bs total ss (i + 1) from (at + n)) (sym p.1) (upto_plain (Open n) g refl))
  upto_next (Fold n fs) new next g p = subst (λ (k : ℕ). Upto bs total ss (i + 1) k (at + n) new) (sym p.0) (upto_fold n fs g new p.1)
  upto_next (Waiting fs) new next g p = subst (λ (k : ℕ). Upto bs total ss (i + 1) k (at + 0) new) (sym p.0) (subst (Upto bs total ss (i + 1) from (at + 0)) (sym p.1) (upto_plain (Waiting fs) g refl))

  module _ (l : length ss ≤ i) where
    none : drop i ss ≡ []
    none = drop_all i ss l

    at_the_end : at ≡ length bs
    at_the_end =
        let a = text_sum-append (take i ss) (drop i ss) in
        let b = ap text_sum (take-append-drop i ss) in
        let c = ap text_sum none in
        let p = u.place in omega arith

    pub upto_last : is_boundary bs at ≡ true
    upto_last = ap (λ (k : ℕ). is_boundary bs k) at_the_end ∙ boundary_end bs

    pub upto_all : done ++ slice_range bs from at ≡ total
    upto_all =
        ap (λ (ys : List ℕ). done ++ ys) (sym (append-nil (slice_range bs from at)))
        ∙ ap (λ (xs : List Span). done ++ (slice_range bs from at ++ show (marks_of xs) (drop at bs))) (sym none) ∙ u.rest
