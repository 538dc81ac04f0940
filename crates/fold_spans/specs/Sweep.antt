-- Spans made from ranges.
use Rattle.std.specs.Prelude.{◌≡◌, ℕ, ◌+◌, ◌-◌, ◌<◌, ◌≤◌, ◌==◌, nat_lt, max, Bool, if◌then◌else◌, List, [], ◌∷◌, ◌++◌, map}
use Rattle.std.specs.List.{All}
use Rattle.std.specs.List.Sorted.{IsPermutation}
use Rattle.fold_spans.specs.Marks.{Range}
use Rattle.fold_spans.specs.Spans.{span_len, span_folds, some_open}
use Rattle.fold_spans.specs.declared.span.Span.{Span}
use Rattle.fold_spans.specs.declared.span.Span.TheVariants.{Open, Fold, Waiting}
use Rattle.fold_spans.specs.declared.sweep.FoldRange.{FoldRange}
use Rattle.fold_spans.specs.declared.sweep.Run.{Run}

abbrev pub range_of : FoldRange → Range
range_of r = (r.start, r.end)

abbrev pub number_of : FoldRange → ℕ
number_of r = r.number

-- a range lies within from..to
pub record IsWithin (from to : ℕ) (r : FoldRange) : Type 0 where
  pub start : from ≤ r.start
  pub order : r.start ≤ r.end
  pub end : r.end ≤ to

-- A range belongs into a span that begins at p: it lies in the bytes of the ⋯, strictly inside if it holds none; or it holds none at
-- the place where folds wait.
abbrev pub BelongsTo : ℕ → Span → FoldRange → Type 0
BelongsTo p (Open n) r = ⊥
BelongsTo p (Fold n fs) r = (p ≤ r.start) × (r.end ≤ p + n) × (r.start ≡ r.end → (p < r.start) × (r.start < p + n))
BelongsTo p (Waiting fs) r = (r.start ≡ p) × (r.end ≡ p)

-- the spans from place p on have the numbers of these ranges, in order, each in the span where its range belongs
abbrev pub HaveInOrder : ℕ → List Span → List FoldRange → Type 0
HaveInOrder p [] rs = rs ≡ []
HaveInOrder p (s ∷ ss) rs = (mine rest : List FoldRange) × (rs ≡ mine ++ rest) × (span_folds s ≡ map number_of mine)
    × All (BelongsTo p s) mine × HaveInOrder (p + span_len s) ss rest

-- the spans from place p on have the number of each range once, in the span where it belongs
abbrev pub HaveFolds : ℕ → List Span → List FoldRange → Type 0
HaveFolds p ss rs = (sorted : List FoldRange) × IsPermutation rs sorted × HaveInOrder p ss sorted

-- ---- for private clauses: the sweep

abbrev pub run_of : FoldRange → Run
run_of r = record { start = r.start; end = r.end; folds = r.number ∷ [] }

-- the next range goes into the span of a run
abbrev pub takes : Run → FoldRange → Bool
takes u r = if nat_lt u.start u.end then nat_lt r.start u.end else r.end == u.end

abbrev pub with_range : Run → FoldRange → Run
with_range u r = record { start = u.start; end = max u.end r.end; folds = u.folds ++ r.number ∷ [] }

abbrev pub span_of : Run → Span
span_of u = if nat_lt u.start u.end then Fold (u.end - u.start) u.folds else Waiting u.folds

-- the spans from a run on up to `end`
abbrev pub swept : Run → List FoldRange → ℕ → List Span
swept u [] end = span_of u ∷ some_open (end - u.end)
swept u (r ∷ rs) end = if takes u r then swept (with_range u r) rs end
    else span_of u ∷ (some_open (r.start - u.end) ++ swept (run_of r) rs end)

-- the spans from a place on up to `end`
abbrev pub sweep : ℕ → List FoldRange → ℕ → List Span
sweep at [] end = some_open (end - at)
sweep at (r ∷ rs) end = some_open (r.start - at) ++ swept (run_of r) rs end
