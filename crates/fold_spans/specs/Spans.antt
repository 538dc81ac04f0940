-- Spans, and the marks that they stand for.
use Rattle.std.specs.Prelude.{ℕ, zero, suc, ◌+◌, ◌<◌, ◌==◌, if◌then◌else◌, List, [], ◌∷◌, ◌++◌}
use Rattle.fold_spans.specs.Marks.{Mark}
use Rattle.fold_spans.specs.Marks.Mark.{Plain, First, Inner}
use Rattle.fold_spans.specs.declared.span.Span.{Span}
use Rattle.fold_spans.specs.declared.span.Span.TheVariants.{Open, Fold, Waiting}

-- how many bytes of the text are in a span
abbrev pub span_len : Span → ℕ
span_len (Open n) = n
span_len (Fold n fs) = n
span_len (Waiting fs) = 0

-- how many bytes are shown for it
abbrev pub shown_span : Span → ℕ
shown_span (Open n) = n
shown_span (Fold n fs) = 3
shown_span (Waiting fs) = 0

-- the numbers of the folds in it
abbrev pub span_folds : Span → List ℕ
span_folds (Open n) = []
span_folds (Fold n fs) = fs
span_folds (Waiting fs) = fs

-- n marks of one kind
abbrev pub repeat_mark : ℕ → Mark → List Mark
repeat_mark zero m = []
repeat_mark (suc n) m = m ∷ repeat_mark n m

-- those of n bytes that are one ⋯
abbrev pub ellipsis_marks : ℕ → List Mark
ellipsis_marks zero = []
ellipsis_marks (suc n) = First ∷ repeat_mark n Inner

abbrev pub span_marks : Span → List Mark
span_marks (Open n) = repeat_mark n Plain
span_marks (Fold n fs) = ellipsis_marks n
span_marks (Waiting fs) = []

-- of spans, one after the other
abbrev pub marks_of : List Span → List Mark
marks_of [] = []
marks_of (s ∷ ss) = span_marks s ++ marks_of ss

-- how many bytes of the text are in spans, and how many are shown for them
abbrev pub text_sum : List Span → ℕ
text_sum [] = 0
text_sum (s ∷ ss) = span_len s + text_sum ss

abbrev pub shown_sum : List Span → ℕ
shown_sum [] = 0
shown_sum (s ∷ ss) = shown_span s + shown_sum ss

-- the numbers of the folds in them
abbrev pub folds_of : List Span → List ℕ
folds_of [] = []
folds_of (s ∷ ss) = span_folds s ++ folds_of ss

-- a span has a byte, unless folds wait in it
abbrev pub IsSpan : Span → Type 0
IsSpan (Open n) = 0 < n
IsSpan (Fold n fs) = 0 < n
IsSpan (Waiting fs) = Unit {0}

abbrev pub AreSpans : List Span → Type 0
AreSpans [] = Unit {0}
AreSpans (s ∷ ss) = IsSpan s × AreSpans ss

-- n bytes that are shown as they are
abbrev pub some_open : ℕ → List Span
some_open n = if n == 0 then [] else Open n ∷ []
