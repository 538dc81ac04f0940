-- The span that has a byte, and spans that touch a range.
use Rattle.std.specs.Prelude.{◌≡◌, ℕ, suc, ◌+◌, ◌<◌, ◌≤◌, List, ◌∷◌, ◌++◌, length, take, Option, Some, None}
use Rattle.fold_spans.specs.Spans.{text_sum}
use Rattle.fold_spans.specs.Lengths.{lengths_of, lengths_of_span}
use Rattle.fold_spans.specs.declared.span.Span.{Span}
use Rattle.fold_spans.specs.declared.lengths.Lengths.{Lengths}
use Rattle.fold_spans.specs.declared.touching.Touching.{Touching}

-- of the bytes that a length counts, byte o is in the span, and b is the lengths before it; or there are not so many
abbrev pub IsFound : (Lengths → ℕ) → List Span → ℕ → Option Span → Lengths → Type 0
IsFound count ss o None b = (b ≡ lengths_of ss) × (count b ≤ o)
IsFound count ss o (Some s) b = (pre post : List Span) × (ss ≡ pre ++ s ∷ post) × (b ≡ lengths_of pre)
    × (count b ≤ o) × (o < count b + count (lengths_of_span s))

-- by the bytes of the text, and by those that are shown
abbrev pub IsTextSpan : List Span → ℕ → Option Span → Lengths → Type 0
IsTextSpan = IsFound (λ b. b.text)

abbrev pub IsShownSpan : List Span → ℕ → Option Span → Lengths → Type 0
IsShownSpan = IsFound (λ b. b.shown)

-- where span k begins in the text
abbrev pub start_of : List Span → ℕ → ℕ
start_of ss k = text_sum (take k ss)

-- t is the run of the spans that meet s..=e, with the places at which it begins and ends in the text
pub record IsTouching (ss : List Span) (s e : ℕ) (t : Touching) : Type 0 where
  pub order : t.from ≤ t.to
  pub within : t.to ≤ length ss
  pub start : t.start ≡ start_of ss t.from
  pub end : t.end ≡ start_of ss t.to
  pub before : (k : ℕ) → k < t.from → start_of ss (suc k) < s
  pub meets : (k : ℕ) → t.from ≤ k → k < t.to → (start_of ss k ≤ e) × (s ≤ start_of ss (suc k))
  pub after : (k : ℕ) → t.to ≤ k → k < length ss → e < start_of ss k
