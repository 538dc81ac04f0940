-- Windows of spans that are made again, and folds by their numbers, for private clauses.
use Rattle.std.specs.Prelude.{◌≡◌, ℕ, suc, ◌+◌, ◌-◌, ◌<◌, ◌≤◌, List, [], ◌∷◌, ◌++◌, map, drop, slice_get, Option, Some, None}
use Rattle.std.specs.Ordering.{nat_cmp}
use Rattle.sum_tree.specs.Keyed.{item_of_key}
use Rattle.sum_tree.specs.Spliced.{splice_list}
use Rattle.op_model.specs.declared.anchor.TextEdit.{TextEdit}
use Rattle.op_model.specs.Histories.{History}
use Rattle.fold_spans.specs.Marks.{marks}
use Rattle.fold_spans.specs.Spans.{marks_of, text_sum}
use Rattle.fold_spans.specs.Found.{IsTouching}
use Rattle.fold_spans.specs.Sweep.{range_of, HaveFolds}
use Rattle.fold_spans.specs.declared.span.Span.{Span}
use Rattle.fold_spans.specs.declared.sweep.FoldRange.{FoldRange}
use Rattle.fold_spans.specs.declared.touching.Touching.{Touching}
use Rattle.fold_map.specs.declared.fold.NumberedFold.{NumberedFold}
use Rattle.fold_map.specs.Numbered.{number_of, numbered_range, without_shared}

-- the range of a fold, if there is one
abbrev pub found_range : History → Option NumberedFold → List FoldRange
found_range h None = []
found_range h (Some f) = numbered_range h f ∷ []

-- the ranges of the folds that have these numbers, in the order of the numbers
abbrev pub named_ranges : History → List NumberedFold → List ℕ → List FoldRange
named_ranges h fs [] = []
named_ranges h fs (n ∷ ns) = found_range h (item_of_key nat_cmp number_of n fs) ++ named_ranges h fs ns

-- without the folds of those ranges that share a byte with s..e
abbrev pub without_each : ℕ → ℕ → List FoldRange → List NumberedFold → List NumberedFold
without_each s e [] fs = fs
without_each s e (r ∷ rs) fs = without_each s e rs (without_shared s e r fs)

-- spans of the ranges stand in the place of a run of the old ones, whose bytes are t.start..t.end of the text from now on
pub record IsMadeAgain (t : Touching) (rs : List FoldRange) (old new : List Span) : Type 0 where
  pub list : List Span
  pub spans : new ≡ splice_list t.from t.to list old
  pub marks : marks_of list ≡ marks (map range_of rs) t.start (t.end - t.start)
  pub folds : HaveFolds t.start list rs
  pub len : text_sum list ≡ t.end - t.start

abbrev pub last_of : TextEdit → List TextEdit → TextEdit
last_of e [] = e
last_of e (x ∷ xs) = last_of x xs

-- no edit begins after the end of one that follows it
abbrev pub AreInOrder : List TextEdit → Type 0
AreInOrder es = (before : List TextEdit) (e : TextEdit) (others : List TextEdit) → es ≡ before ++ e ∷ others
    → e.old.0 ≤ (last_of e others).old.1

-- the edits from index n on are `first` and `others`, and t is the run of the spans from those that the first one touches to those that
-- the last one touches
pub record IsRunFrom (ss : List Span) (es : List TextEdit) (n : ℕ) (t : Touching) : Type 0 where
  pub first : TextEdit
  pub others : List TextEdit
  pub edits : drop n es ≡ first ∷ others
  pub run : IsTouching ss first.old.0 (last_of first others).old.1 t

-- the last edits that share spans, from an index on, and the run of their spans: the edit before them ends before it
abbrev pub IsLastWindow : List Span → List TextEdit → Option (ℕ × Touching) → Type 0
IsLastWindow ss es None = es ≡ []
IsLastWindow ss es (Some w) = IsRunFrom ss es w.0 w.1
    × ((k : ℕ) → (x : TextEdit) → suc k ≡ w.0 → slice_get es k ≡ Some x → x.old.1 < w.1.start)

-- a run of spans from those that the edit e touches to those that the edit l touches, with its places in the new text
abbrev pub run_after : Touching → TextEdit → TextEdit → Touching
run_after t e l = record {
  from = t.from;
  to = t.to;
  start = e.new.0 - (e.old.0 - t.start);
  end = l.new.1 + (t.end - l.old.1);
}
