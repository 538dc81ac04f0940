-- Folds with numbers, for private clauses.
use Rattle.std.specs.Prelude.{◌≡◌, ℕ, ◌<◌, ◌≤◌, ◌^◌, List, length, map, max, min, nat_lt, Bool, if◌then◌else◌}
use Rattle.std.specs.List.{All}
use Rattle.std.specs.Ordering.{nat_cmp}
use Rattle.sum_tree.specs.Keyed.{Ascending, remove_key}
use Rattle.op_model.specs.Histories.{History}
use Rattle.op_model.specs.Shown.{text}
use Rattle.op_model.specs.Anchors.{place}
use Rattle.fold_spans.specs.Marks.{marks}
use Rattle.fold_spans.specs.Spans.{marks_of}
use Rattle.fold_spans.specs.Sweep.{HaveFolds}
use Rattle.fold_spans.specs.declared.span.Span.{Span}
use Rattle.fold_spans.specs.declared.sweep.FoldRange.{FoldRange}
use Rattle.fold_map.specs.declared.fold.Fold.{Fold}
use Rattle.fold_map.specs.declared.fold.NumberedFold.{NumberedFold}
use Rattle.fold_map.specs.Folds.{FoldState, IsFold, ranges}
use Rattle.fold_map.specs.Calls.{shares}

abbrev pub number_of : NumberedFold → ℕ
number_of f = f.number

abbrev pub fold_of : NumberedFold → Fold
fold_of f = f.fold

abbrev pub folds_of : List NumberedFold → List Fold
folds_of fs = map fold_of fs

-- the numbers ascend, and each is less than `next`; there are at most 2^40 folds
pub record AreNumbered (next : ℕ) (fs : List NumberedFold) : Type 0 where
  pub ascending : Ascending nat_cmp number_of fs
  pub below : All (λ f. number_of f < next) fs
  pub few : length fs ≤ 2 ^ 40

abbrev pub AreFolds : History → List NumberedFold → Type 0
AreFolds h fs = All (λ f. IsFold h (fold_of f)) fs

-- the range of a fold in the text, with the fold's number
abbrev pub numbered_range : History → NumberedFold → FoldRange
numbered_range h f = record { start = place h f.fold.start; end = place h f.fold.end; number = f.number }

abbrev pub numbered_ranges : History → List NumberedFold → List FoldRange
numbered_ranges h fs = map (numbered_range h) fs

-- a range shares a byte with s..e
abbrev pub range_shares : ℕ → ℕ → FoldRange → Bool
range_shares s e r = nat_lt (max r.start s) (min r.end e)

-- without the fold of a range, if the range shares a byte with s..e
abbrev pub without_shared : ℕ → ℕ → FoldRange → List NumberedFold → List NumberedFold
without_shared s e r fs = if range_shares s e r then remove_key nat_cmp number_of r.number fs else fs

abbrev pub fold_shares : History → ℕ → ℕ → NumberedFold → Bool
fold_shares h s e f = shares h s e f.fold

-- the spans show the folds: they have the marks of their ranges, and each fold's number stands once, in the span where its range
-- belongs
pub record AreSpansOf (h : History) (fs : List NumberedFold) (ss : List Span) : Type 0 where
  pub marks : marks_of ss ≡ marks (ranges h (folds_of fs)) 0 (length (text h))
  pub homes : HaveFolds 0 ss (numbered_ranges h fs)

-- what is true of the fields of a fold map
pub record IsFoldMap (h : History) (fs : List NumberedFold) (ss : List Span) : Type 0 where
  pub folds : AreFolds h fs
  pub spans : AreSpansOf h fs ss

abbrev pub state_of : History → List NumberedFold → FoldState
state_of h fs = record { history = h; folds = folds_of fs }
