-- A history with folds: what is shown of its text, and places in both texts.
use Rattle.std.specs.Prelude.{◌≡◌, ℕ, ◌-◌, ◌==◌, ◌||◌, nat_lt, true, false, Bool, if◌then◌else◌, List, [], ◌∷◌, length, map, Option, Some, None}
use Rattle.std.specs.declared.cmp.Ordering.TheVariants.{Less}
use Rattle.tree_cursor.specs.declared.traits.Bias.{Bias}
use Rattle.op_model.specs.Histories.{History}
use Rattle.op_model.specs.Edits.{is_boundary}
use Rattle.op_model.specs.Shown.{text}
use Rattle.op_model.specs.Anchors.{place, is_known, compare_anchors}
use Rattle.fold_spans.specs.Marks.{Range, Mark, marks, shown_text, shown_place, text_place}
use Rattle.fold_spans.specs.Marks.Mark.{Plain, First, Inner}
use Rattle.fold_map.specs.declared.fold.Fold.{Fold}

-- what a fold map is of: the history of a snapshot, and folds in the order in which they were made
pub record FoldState : Type 0 where
  pub history : History
  pub folds : List Fold

-- the range of a fold: its two places. It holds nothing where the first is not less than the second
abbrev pub range : History → Fold → Range
range h f = (place h f.start, place h f.end)

abbrev pub ranges : History → List Fold → List Range
ranges h fs = map (range h) fs

-- what becomes of each byte of the text
abbrev pub fold_marks : FoldState → List Mark
fold_marks m = marks (ranges m.history m.folds) 0 (length (text m.history))

-- what is shown of the text
abbrev pub shown : FoldState → List ℕ
shown m = shown_text (ranges m.history m.folds) (text m.history)

-- shown place d is strictly inside the bytes of a ⋯
abbrev pub is_inside : List Mark → ℕ → Bool
is_inside [] d = false
is_inside (Inner ∷ ms) d = is_inside ms d
is_inside (Plain ∷ ms) d = if d == 0 then false else is_inside ms (d - 1)
is_inside (First ∷ ms) d = if nat_lt d 3 then nat_lt 0 d else is_inside ms (d - 3)

-- the shown place of place o, None where o is no boundary of the text
abbrev pub to_shown : FoldState → ℕ → Bias → Option ℕ
to_shown m o b = if is_boundary (text m.history) o then Some (shown_place (fold_marks m) o b) else None

-- the place of shown place d, None where d is past the end of what is shown or inside a character of it that is not a fold's ⋯
abbrev pub to_text : FoldState → ℕ → Bias → Option ℕ
to_text m d b = if is_boundary (shown m) d || is_inside (fold_marks m) d then Some (text_place (fold_marks m) d b) else None

-- a fold is one of h: its anchors are known there, and the first is less than the second
pub record IsFold (h : History) (f : Fold) : Type 0 where
  pub start : is_known h f.start ≡ true
  pub end : is_known h f.end ≡ true
  pub order : compare_anchors h f.start f.end ≡ Less
