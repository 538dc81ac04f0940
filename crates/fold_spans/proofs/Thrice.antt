-- Spans show at most three bytes for each of the text.
use Rattle.std.proofs.Common.{◌*◌, ◌≤◌, [], ◌∷◌, arith}
use Rattle.fold_spans.specs.Spans.{span_len, shown_span, IsSpan}
use Rattle.fold_spans.specs.Laws.{ShownAtMostThrice}
use Rattle.fold_spans.specs.declared.span.Span.{Span}
use Rattle.fold_spans.specs.declared.span.Span.TheVariants.{Open, Fold, Waiting}

one_span : (s : Span) → IsSpan s → shown_span s ≤ 3 * span_len s
one_span (Open n) l = omega arith
one_span (Fold n fs) l = omega arith
one_span (Waiting fs) l = omega arith

pub shown_at_most_thrice : ShownAtMostThrice
shown_at_most_thrice [] a = omega arith
shown_at_most_thrice (s ∷ ss) a = let e = one_span s a.0 in let f = shown_at_most_thrice ss a.1 in omega arith
