-- Places by the span that a look-up gives.
use Rattle.std.proofs.Common.{◌≡◌, ℕ, zero, suc, ◌+◌, ◌-◌, ◌≤◌, false, List, [], ◌∷◌, ◌++◌, length, drop, Some, None, refl, sym, ap, ◌∙◌, subst, arith, append-nil}
use Rattle.std.proofs.lemmas.List.{take_all}
use Rattle.tree_cursor.specs.declared.traits.Bias.{Bias}
use Rattle.tree_cursor.specs.declared.traits.Bias.TheVariants.{Left, Right}
use Rattle.fold_spans.specs.Marks.{Mark, shown_len, begins_inner, shown_place, text_place}
use Rattle.fold_spans.specs.Spans.{marks_of, span_len, shown_span, text_sum, shown_sum, AreSpans, IsSpan}
use Rattle.fold_spans.specs.Laws.{shown_in, text_in}
use Rattle.fold_spans.specs.Found.{IsTextSpan, IsShownSpan}
use Rattle.fold_spans.specs.declared.span.Span.{Span}
use Rattle.fold_spans.specs.declared.lengths.Lengths.{Lengths}
use Rattle.fold_spans.proofs.Sums.{text_sum-append, shown_sum-append}
use Rattle.fold_spans.proofs.BySpan.{shown_place_by_span, text_place_by_span, spans_shown, length_marks_of, past_spans}

pub AreSpans-parts : (pre : List Span) (s : Span) (post : List Span) → AreSpans (pre ++ s ∷ post) → AreSpans pre × IsSpan s × AreSpans post
AreSpans-parts [] s post a = (tt, a.0, a.1)
AreSpans-parts (x ∷ pre) s post a = let r = AreSpans-parts pre s post a.1 in ((a.0, r.0), r.1, r.2)

module _ (ss : List Span) (a : AreSpans ss) (o : ℕ) (bias : Bias) where
  pub by_text : (s : Span) (b : Lengths) → IsTextSpan ss o (Some s) b → shown_in s b.shown (o - b.text) bias ≡ shown_place (marks_of ss) o bias
  by_text s b (pre, post, e, f, l, m) =
      let r = AreSpans-parts pre s post (subst AreSpans e a) in
      let t : text_sum pre + (o - b.text) ≡ o = (let g = ap (λ (x : Lengths). x.text) f in omega arith) in
      let k : o - b.text ≤ span_len s = omega arith in
      ap (λ (n : ℕ). shown_in s n (o - b.text) bias) (ap (λ (x : Lengths). x.shown) f)
      ∙ sym (shown_place_by_span pre post s (o - b.text) bias r.0 r.2 r.1 k)
      ∙ ap (λ (n : ℕ). shown_place (marks_of (pre ++ s ∷ post)) n bias) t ∙ ap (λ (xs : List Span). shown_place (marks_of xs) o bias) (sym e)

  pub by_shown : (s : Span) (b : Lengths) → IsShownSpan ss o (Some s) b → text_in s b.text (o - b.shown) bias ≡ text_place (marks_of ss) o bias
  by_shown s b (pre, post, e, f, l, m) =
      let r = AreSpans-parts pre s post (subst AreSpans e a) in
      let t : shown_sum pre + (o - b.shown) ≡ o = (let g = ap (λ (x : Lengths). x.shown) f in omega arith) in
      let k : o - b.shown ≤ shown_span s = omega arith in
      ap (λ (n : ℕ). text_in s n (o - b.shown) bias) (ap (λ (x : Lengths). x.text) f)
      ∙ sym (text_place_by_span pre post s (o - b.shown) bias r.0 r.2 r.1 k)
      ∙ ap (λ (n : ℕ). text_place (marks_of (pre ++ s ∷ post)) n bias) t ∙ ap (λ (xs : List Span). text_place (marks_of xs) o bias) (sym e)

pub text_parts : (ss : List Span) (o : ℕ) (s : Span) (b : Lengths) → IsTextSpan ss o (Some s) b → (b.text ≤ o) × (o - b.text ≤ span_len s) × (b.shown + shown_span s ≤ shown_sum ss)
text_parts ss o s b (pre, post, e, f, l, m) = (l, omega arith, let g = ap shown_sum e in let u = shown_sum-append pre (s ∷ post) in let v = ap (λ (x : Lengths). x.shown) f in omega arith)

pub shown_parts : (ss : List Span) (o : ℕ) (s : Span) (b : Lengths) → IsShownSpan ss o (Some s) b → (b.shown ≤ o) × (o - b.shown ≤ shown_span s) × (b.text + span_len s ≤ text_sum ss)
shown_parts ss o s b (pre, post, e, f, l, m) = (l, omega arith, let g = ap text_sum e in let u = text_sum-append pre (s ∷ post) in let v = ap (λ (x : Lengths). x.text) f in omega arith)

-- ---- past the last byte

drop_all : (ms : List Mark) (n : ℕ) → length ms ≤ n → drop n ms ≡ []
drop_all [] zero l = refl
drop_all [] (suc n) l = refl
drop_all (m ∷ ms) zero l = absurd (omega arith)
drop_all (m ∷ ms) (suc n) l = drop_all ms n (omega arith)

shown_end : (ms : List Mark) (n : ℕ) (bias : Bias) → length ms ≤ n → shown_place ms n bias ≡ shown_len ms
shown_end ms n Right l = ap shown_len (take_all n ms l)
shown_end ms n Left l = let e : begins_inner (drop n ms) ≡ false = ap begins_inner (drop_all ms n l) in rw e (ap shown_len (take_all n ms l))

pub past_text : (ss : List Span) (a : AreSpans ss) (o : ℕ) (bias : Bias) (b : Lengths) → IsTextSpan ss o None b → b.shown ≡ shown_place (marks_of ss) o bias
past_text ss a o bias b f =
    let l = f.1 in
    let g = length_marks_of ss in
    let e = ap (λ (x : Lengths). x.text) f.0 in
    ap (λ (x : Lengths). x.shown) f.0 ∙ sym (shown_end (marks_of ss) o bias (omega arith) ∙ spans_shown ss a)

pub past_shown : (ss : List Span) (a : AreSpans ss) (o : ℕ) (bias : Bias) (b : Lengths) → IsShownSpan ss o None b → o ≤ shown_sum ss → b.text ≡ text_place (marks_of ss) o bias
past_shown ss a o bias b f m =
    let l = f.1 in
    let e = ap (λ (x : Lengths). x.shown) f.0 in
    let t : shown_sum ss + 0 ≡ o = omega arith in
    ap (λ (x : Lengths). x.text) f.0
    ∙ sym (ap (λ (n : ℕ). text_place (marks_of ss) n bias) (sym t) ∙ ap (λ (ms : List Mark). text_place ms (shown_sum ss + 0) bias) (sym (append-nil (marks_of ss))) ∙ past_spans ss [] 0 bias a ∙ (omega arith))
