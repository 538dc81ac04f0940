-- One span more of what is shown, for private clauses.
use Rattle.std.specs.Prelude.{◌≡◌, ℕ, ◌+◌, List, ◌++◌, slice_range}
use Rattle.std.specs.Str.{IsCharBoundary}
use Rattle.fold_spans.specs.Marks.{ellipsis}
use Rattle.fold_spans.specs.declared.span.Span.{Span}
use Rattle.fold_spans.specs.declared.span.Span.TheVariants.{Open, Fold, Waiting}

-- a span that begins at place `at` of the text may be passed: if it is a ⋯, a character begins there or the text ends
abbrev pub MayPass : Span → List ℕ → ℕ → Type 0
MayPass (Open n) bs at = Unit {0}
MayPass (Fold n fs) bs at = IsCharBoundary bs at
MayPass (Waiting fs) bs at = Unit {0}

-- `old` is what was added before the span, without the bytes from..at, and `new` what is added after it, without those from `next` on
abbrev pub IsPassed : Span → List ℕ → ℕ → ℕ → List ℕ → List ℕ → ℕ → Type 0
IsPassed (Open n) bs from at old new next = (next ≡ from) × (new ≡ old)
IsPassed (Fold n fs) bs from at old new next = (next ≡ at + n) × (new ≡ (old ++ slice_range bs from at) ++ ellipsis)
IsPassed (Waiting fs) bs from at old new next = (next ≡ from) × (new ≡ old)
