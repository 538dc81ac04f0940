-- How many spans there are, and how many bytes they have in both texts, as sums and as places.
use Rattle.std.specs.Prelude.{◌+◌, ◌^◌, ◌<◌, ◌≤◌, List, length, Option, Some}
use Rattle.fold_spans.specs.Spans.{span_len, shown_span, text_sum, shown_sum}
use Rattle.fold_spans.specs.declared.span.Span.{Span}
use Rattle.fold_spans.specs.declared.lengths.Lengths.{Lengths}

abbrev pub no_lengths : Lengths
no_lengths = record { spans = 0; text = 0; shown = 0 }

abbrev pub add_lengths : Lengths → Lengths → Lengths
add_lengths a b = record { spans = a.spans + b.spans; text = a.text + b.text; shown = a.shown + b.shown }

abbrev pub AnyLengths : Lengths → Type 0
AnyLengths a = Unit {0}

-- each number is one that its type has
pub record LengthsFit (a : Lengths) : Type 0 where
  pub spans : a.spans < 2 ^ 64
  pub text : a.text < 2 ^ 64
  pub shown : a.shown < 2 ^ 64

abbrev pub lengths_of_span : Span → Lengths
lengths_of_span s = record { spans = 1; text = span_len s; shown = shown_span s }

abbrev pub lengths_of : List Span → Lengths
lengths_of ss = record { spans = length ss; text = text_sum ss; shown = shown_sum ss }

-- ---- as places

abbrev pub move_place : Lengths → Lengths → Option Lengths
move_place p a = Some (add_lengths p a)

pub record IsLater (p q : Lengths) : Type 0 where
  pub spans : p.spans ≤ q.spans
  pub text : p.text ≤ q.text
  pub shown : p.shown ≤ q.shown

abbrev pub PlaceFits : Lengths → Lengths → Type 0
PlaceFits p a = LengthsFit (add_lengths p a)
