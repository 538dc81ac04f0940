-- Laws of what multibuffers answer, which src/laws.rt shows.
use Rattle.std.specs.Prelude.{◌≡◌, ℕ, suc, List, map, slice_get, Some, None}
use Rattle.std.specs.List.{AllByRecursion}
use Rattle.op_model.specs.declared.anchor.Anchor.TheVariants.{At}
use Rattle.op_model.specs.declared.anchor.Bias.TheVariants.{Left, Right}
use Rattle.op_model.specs.declared.operation.Piece.{Piece}
use Rattle.op_model.specs.Anchors.{shown_cells}
use Rattle.op_model.specs.Cells.{Cell}
use Rattle.op_model.specs.Edits.{replace_ranges}
use Rattle.op_model.specs.Histories.{History}
use Rattle.op_model.specs.Lawful.{Lawful}
use Rattle.multi_buffer.specs.declared.excerpt.Excerpt.{Excerpt}
use Rattle.multi_buffer.specs.declared.places.Place.{Place}
use Rattle.multi_buffer.specs.Calls.{followed}
use Rattle.multi_buffer.specs.State.{MultiState, multi_text}
use Rattle.multi_buffer.specs.Places.{to_multi, to_source}
use Rattle.multi_buffer.specs.Splits.{split_fault, split_of}
use Rattle.multi_buffer.specs.Edits.{Buffers, MayEdit, after_edits, entered_change}

-- the place in the text of the place that a place of the text has in its buffer is that place again
abbrev pub PlacesComeBack : MultiState → Type 0
PlacesComeBack m = (o : ℕ) → (p : Place) → to_source m o ≡ Some p → to_multi m p.excerpt p.offset ≡ Some o

-- changes that are split without a fault: where each buffer that has pieces is history_after by them as it was synced last, and
-- synced after that, the text is the old one with the changes, each with its text as it enters its buffer
abbrev pub EditsReplace : MultiState → Type 0
EditsReplace m = (bs : Buffers) → (ps : List Piece) → split_fault m ps ≡ None
    → AllByRecursion (MayEdit bs m) (split_of m ps)
    → multi_text (after_edits bs (split_of m ps) m) ≡ replace_ranges (map (entered_change bs m.excerpts) ps) (multi_text m)

-- an end that keeps to a byte which a later history shows: the anchor that is made again there is the same
abbrev pub ShownEndsStay : Type 0
ShownEndsStay = (h : History) → Lawful h → (x : Excerpt) → (i : ℕ) → (c : Cell) → slice_get (shown_cells h) i ≡ Some c
    → (x.left ≡ At c.stamp (suc c.k) Left → ((followed h x).left ≡ x.left) × ((followed h x).start ≡ suc i))
    × (x.right ≡ At c.stamp c.k Right → ((followed h x).right ≡ x.right) × ((followed h x).end ≡ i))
