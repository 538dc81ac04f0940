use Rattle.std.proofs.Common.{◌≡◌, [], ◌∷◌, ◌++◌, List, ap, sym, subst, arith}
use Rattle.fold_spans.specs.Spans.{text_sum, AreSpans}
use Rattle.fold_spans.specs.declared.span.Span.{Span}
use Rattle.fold_spans.proofs.Sums.{AreSpans-append, text_sum-append}
use Rattle.fold_tests.proofs.life.spans_from.Goals as goal

pub loop-i-preserved : goal.loop-i-preserved
loop-i-preserved c =
    let x : Span = c.in_ok-span_of.field-0 in
    let old : List Span = c.loop-i.spans.items in
    let e : c.push.new.self.items ≡ old ++ x ∷ [] = c.in_ok-push.ensures.items in
    record {
      spans = subst AreSpans (sym e) (AreSpans-append old (x ∷ []) c.loop-i.invariant.spans (c.in_ok-span_of.ensures.span, tt));
      short = omega (arith, ap text_sum e, text_sum-append old (x ∷ []), c.in_ok-span_of.ensures.short, c.loop-i.invariant.short);
    }
