-- A local edit: the plain replacement of ranges of a text, and the fault that it meets.
use Rattle.std.specs.Prelude.{ℕ, ◌+◌, suc, ◌==◌, ◌&&◌, ◌||◌, Bool, not, nat_lt, nat_le, if◌then◌else◌, List, [], ◌∷◌, ◌++◌, length, drop, slice_range, slice_index, Option, Some, None, option_map}
use Rattle.std.specs.List.{position}
use Rattle.lamport_clock.specs.Clocks.{last_value}
use Rattle.op_model.specs.declared.operation.Piece.{Piece}
use Rattle.op_model.specs.declared.limits.Limits.{Limits as LimitsType}
use Rattle.op_model.specs.declared.faults.EditFault.{EditFault}
use Rattle.op_model.specs.declared.faults.EditFault.TheVariants.{Reversed, Overlap, PastEnd, InsideChar, TextLimit, ClockEnd, Full}
use Rattle.op_model.specs.Choice.{first_of, when}
use Rattle.op_model.specs.Operations.{text_total, text_limit}
use Rattle.op_model.specs.Histories.{History, clock}
use Rattle.op_model.specs.Limited.{excess}

-- the text from a place on, with each range replaced
abbrev pub replaced_from : ℕ → List Piece → List ℕ → List ℕ
replaced_from at [] text = drop at text
replaced_from at (p ∷ ps) text = slice_range text at p.start ++ (p.text ++ replaced_from p.end ps text)

-- the text with each range replaced, where the pieces meet no fault
abbrev pub replace_ranges : List Piece → List ℕ → List ℕ
replace_ranges ps text = replaced_from 0 ps text

-- a character begins there, or the text ends (RFC 3629: a byte that continues a character is 128 to 191)
abbrev pub is_boundary : List ℕ → ℕ → Bool
is_boundary text i = nat_le i (length text) &&
    (nat_le (length text) i || (nat_lt (slice_index text i) 128 || nat_le 192 (slice_index text i)))

abbrev pub is_reversed : Piece → Bool
is_reversed p = nat_lt p.end p.start

abbrev pub is_past : ℕ → Piece → Bool
is_past len p = nat_lt len p.end

abbrev pub is_inside : List ℕ → Piece → Bool
is_inside text p = not (is_boundary text p.start && is_boundary text p.end)

-- the first piece, counted from i, that starts before the end of the one before it, which was `at`
abbrev pub overlap_from : ℕ → ℕ → List Piece → Option ℕ
overlap_from at i [] = None
overlap_from at i (p ∷ ps) = if nat_lt p.start at then Some i else overlap_from p.end (suc i) ps

-- the first fault of the pieces against a text, each at its least piece
abbrev pub piece_fault : List ℕ → List Piece → Option EditFault
piece_fault text ps = first_of (
    option_map Reversed (position is_reversed ps)
    ∷ option_map Overlap (overlap_from 0 0 ps)
    ∷ option_map (λ i. PastEnd i (length text)) (position (is_past (length text)) ps)
    ∷ option_map InsideChar (position (is_inside text) ps)
    ∷ [])

-- the fault that an edit meets at a history that shows the text
abbrev pub edit_fault : LimitsType → History → List ℕ → List Piece → Option EditFault
edit_fault l h text ps = first_of (
    piece_fault text ps
    ∷ when (nat_lt text_limit (text_total ps)) (TextLimit (text_total ps))
    ∷ when (clock h == last_value) ClockEnd
    ∷ option_map (λ e. Full e.unit e.held e.adds) (excess l h (text_total ps) (1 + length ps))
    ∷ [])
