-- Anchors: how they are made, where they stand, and their order.
use Rattle.std.specs.Prelude.{ℕ, zero, suc, not, ◌-◌, ◌==◌, Bool, true, if◌then◌else◌, ◌&&◌, nat_lt, nat_le, List, [], ◌∷◌, length, Option, Some, None, option_map, slice_get}
use Rattle.std.specs.List.{filter}
use Rattle.std.specs.Ordering.{nat_cmp, ordering_then}
use Rattle.std.specs.declared.cmp.Ordering.{Ordering}
use Rattle.op_model.specs.Histories.{History, has_edit}
use Rattle.op_model.specs.Choice.{first_of, when}
use Rattle.op_model.specs.Edits.{is_boundary}
use Rattle.op_model.specs.Cells.{Cell, same_cell, seq, cells}
use Rattle.op_model.specs.Shown.{shows, text, new_bytes}
use Rattle.op_model.specs.declared.anchor.Anchor.{Anchor}
use Rattle.op_model.specs.declared.anchor.Anchor.TheVariants.{Least, Greatest, At}
use Rattle.op_model.specs.declared.anchor.Bias.TheVariants.{Left, Right}
use Rattle.op_model.specs.declared.faults.PlaceFault.{PlaceFault}
use Rattle.op_model.specs.declared.faults.PlaceFault.TheVariants.{PastEnd, InsideChar}

-- At t k Left stands after byte k - 1 of edit t, At t k Right before byte k; Least and Greatest name no byte

-- the shown cells in order
abbrev pub shown_cells : History → List Cell
shown_cells h = filter (shows h) (cells (seq h))

-- the anchor made at offset o of the text, where a character begins or the text ends: Least for Left at 0, Greatest for
-- Right at the end; else Left names shown cell o - 1, Right shown cell o. None past the end
unfoldable pub left_anchor : History → ℕ → Option Anchor
left_anchor h zero = Some Least
left_anchor h (suc o) = option_map (λ (c : Cell). At c.stamp (suc c.k) Left) (slice_get (shown_cells h) o)

unfoldable pub right_anchor : History → ℕ → Option Anchor
right_anchor h o = if o == length (text h) then Some Greatest
    else option_map (λ (c : Cell). At c.stamp c.k Right) (slice_get (shown_cells h) o)

-- the cells of s before c
abbrev pub cells_before : List Cell → Cell → List Cell
cells_before [] c = []
cells_before (d ∷ s) c = if same_cell d c then [] else d ∷ cells_before s c

-- the cells of s up to and including c
abbrev pub cells_upto : List Cell → Cell → List Cell
cells_upto [] c = []
cells_upto (d ∷ s) c = if same_cell d c then d ∷ [] else d ∷ cells_upto s c

abbrev pub shown_count : History → List Cell → ℕ
shown_count h s = length (filter (shows h) s)

-- where a known anchor stands in the text: Left counts the shown cells up to and including its own, Right those before
-- its own
unfoldable pub place : History → Anchor → ℕ
place h Least = 0
place h Greatest = length (text h)
place h (At t k Left) = shown_count h (cells_upto (cells (seq h)) (record { stamp = t; k = k - 1 }))
place h (At t k Right) = shown_count h (cells_before (cells (seq h)) (record { stamp = t; k = k }))

-- a known anchor's gap among all cells, and 0 for Left, 1 for Right
unfoldable pub gap : History → Anchor → ℕ × ℕ
gap h Least = (0, 0)
gap h Greatest = (length (seq h), 1)
gap h (At t k Left) = (length (cells_upto (cells (seq h)) (record { stamp = t; k = k - 1 })), 0)
gap h (At t k Right) = (length (cells_before (cells (seq h)) (record { stamp = t; k = k })), 1)

-- anchors are ordered by their gaps, Left before Right in one gap
unfoldable pub compare_anchors : History → Anchor → Anchor → Ordering
compare_anchors h a b = ordering_then (nat_cmp (gap h a).0 (gap h b).0) (nat_cmp (gap h a).1 (gap h b).1)

-- t is an edit of h, a character of its new bytes begins or they end at k, and the byte that the anchor names is one of
-- them; Least and Greatest are always known
unfoldable pub is_known : History → Anchor → Bool
is_known h Least = true
is_known h Greatest = true
is_known h (At t k Left) = has_edit h t && is_boundary (new_bytes h t) k && nat_le 1 k
    && nat_le k (length (new_bytes h t))
is_known h (At t k Right) = has_edit h t && is_boundary (new_bytes h t) k && nat_lt k (length (new_bytes h t))

-- why no anchor is made at an offset: it passes the text's length, or it is inside a character
abbrev pub place_fault : History → ℕ → Option PlaceFault
place_fault h o = first_of (
    when (nat_lt (length (text h)) o) (PastEnd (length (text h)))
    ∷ when (not (is_boundary (text h) o)) InsideChar
    ∷ [])

-- the place of an anchor, None where it is not known
abbrev pub known_place : History → Anchor → Option ℕ
known_place h a = if is_known h a then Some (place h a) else None

-- the order of two anchors, None where one is not known
abbrev pub known_order : History → Anchor → Anchor → Option Ordering
known_order h a b = if is_known h a && is_known h b then Some (compare_anchors h a b) else None
