-- Laws of what fold maps answer, which src/laws.rt shows.
use Rattle.std.specs.Prelude.{◌≡◌, ℕ, true, false, drop, Some}
use Rattle.tree_cursor.specs.declared.traits.Bias.{Bias}
use Rattle.op_model.specs.Edits.{is_boundary}
use Rattle.op_model.specs.Shown.{text}
use Rattle.fold_spans.specs.Marks.{begins_inner}
use Rattle.fold_map.specs.Folds.{FoldState, fold_marks, shown, to_shown, to_text}

-- fold maps of m and of n show the same text, and take the same places to the same places
pub record ShowAlike (m n : FoldState) : Type 0 where
  pub texts : shown m ≡ shown n
  pub shown_places : (o : ℕ) → (b : Bias) → to_shown m o b ≡ to_shown n o b
  pub text_places : (d : ℕ) → (b : Bias) → to_text m d b ≡ to_text n d b

-- the place of the shown place of a place is that place again, unless it is strictly inside what a ⋯ stands for
abbrev pub PlacesComeBack : FoldState → Type 0
PlacesComeBack m = (o : ℕ) → (b c : Bias) → is_boundary (text m.history) o ≡ true
    → begins_inner (drop o (fold_marks m)) ≡ false
    → (d : ℕ) × (to_shown m o b ≡ Some d) × (to_text m d c ≡ Some o)
