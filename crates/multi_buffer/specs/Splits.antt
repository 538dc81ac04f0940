-- Changes of the text of all excerpts as pieces of their buffers, and why they are refused.
use Rattle.std.specs.Prelude.{◌≡◌, ℕ, suc, ◌+◌, ◌-◌, ◌≤◌, ◌==◌, ◌&&◌, not, nat_le, nat_lt, is_none, Bool, if◌then◌else◌, List, [], ◌∷◌, length, Option, Some, None, option_map}
use Rattle.std.specs.List.{position}
use Rattle.op_model.specs.declared.operation.Piece.{Piece}
use Rattle.op_model.specs.Choice.{first_of, when}
use Rattle.op_model.specs.Edits.{is_inside, is_past, is_reversed, overlap_from, piece_fault}
use Rattle.op_model.specs.Operations.{text_limit, text_total}
use Rattle.op_model.specs.Shown.{text}
use Rattle.multi_buffer.specs.declared.excerpt.Excerpt.{Excerpt}
use Rattle.multi_buffer.specs.declared.parts.Part.{Part}
use Rattle.multi_buffer.specs.declared.parts.BufferPieces.{BufferPieces}
use Rattle.multi_buffer.specs.declared.faults.SplitFault.{SplitFault}
use Rattle.multi_buffer.specs.declared.faults.SplitFault.TheVariants.{Reversed, Overlap, PastEnd, InsideChar, TextLimit, Crosses, Shared}
use Rattle.multi_buffer.specs.State.{MultiState, history_of, multi_text, size}

-- ---- where a change goes

abbrev pub part_at : ℕ → Excerpt → ℕ → ℕ → Part
part_at i x s e = record { excerpt = i; buffer = x.buffer; start = x.start + s; end = x.start + e }

-- the range s..e of the excerpts' text, the first of them being excerpt i, in its buffer's text; None where no closed range of an
-- excerpt holds both ends
abbrev pub part_in : ℕ → List Excerpt → ℕ → ℕ → Option Part
part_in i [] s e = None
part_in i (x ∷ xs) s e = if nat_le s (size x) then (if nat_le e (size x) then Some (part_at i x s e) else None)
    else part_in (suc i) xs (s - suc (size x)) (e - suc (size x))

abbrev pub part_of : List Excerpt → Piece → Option Part
part_of xs p = part_in 0 xs p.start p.end

abbrev pub crosses : List Excerpt → Piece → Bool
crosses xs p = is_none (part_of xs p)

-- excerpt i is another one of the part's buffer, and its closed range meets the part's
abbrev pub meets : ℕ → Part → Excerpt → Bool
meets i q x = not (i == q.excerpt) && x.buffer == q.buffer && nat_le q.start x.end && nat_le x.start q.end

-- the least such excerpt, counted from i
abbrev pub sharing : ℕ → Part → List Excerpt → Option ℕ
sharing i q [] = None
sharing i q (x ∷ xs) = if meets i q x then Some i else sharing (suc i) q xs

abbrev pub sharing_of : List Excerpt → Option Part → Option ℕ
sharing_of xs None = None
sharing_of xs (Some q) = sharing 0 q xs

abbrev pub or_sharing : ℕ → Option ℕ → Option (ℕ × ℕ) → Option (ℕ × ℕ)
or_sharing i None r = r
or_sharing i (Some x) r = Some (i, x)

-- the first piece, counted from i, that shares its place with another excerpt, and the least such excerpt
abbrev pub first_sharing : List Excerpt → ℕ → List Piece → Option (ℕ × ℕ)
first_sharing xs i [] = None
first_sharing xs i (p ∷ ps) = or_sharing i (sharing_of xs (part_of xs p)) (first_sharing xs (suc i) ps)

-- why changes are refused
abbrev pub split_fault : MultiState → List Piece → Option SplitFault
split_fault m ps = first_of (
    option_map Reversed (position is_reversed ps)
    ∷ option_map Overlap (overlap_from 0 0 ps)
    ∷ option_map (λ i. PastEnd i (length (multi_text m))) (position (is_past (length (multi_text m))) ps)
    ∷ option_map InsideChar (position (is_inside (multi_text m)) ps)
    ∷ when (nat_lt text_limit (text_total ps)) (TextLimit (text_total ps))
    ∷ option_map Crosses (position (crosses m.excerpts) ps)
    ∷ option_map (λ r. Shared r.0 r.1) (first_sharing m.excerpts 0 ps)
    ∷ [])

-- ---- the pieces of each buffer

-- p after the pieces that start at its start or before
abbrev pub put_piece : Piece → List Piece → List Piece
put_piece p [] = p ∷ []
put_piece p (q ∷ qs) = if nat_le q.start p.start then q ∷ put_piece p qs else p ∷ q ∷ qs

abbrev pub pieces_of_one : ℕ → Piece → BufferPieces
pieces_of_one b p = record { buffer = b; pieces = p ∷ [] }

-- p among the pieces of buffer b, the buffers ascending
abbrev pub put_in : ℕ → Piece → List BufferPieces → List BufferPieces
put_in b p [] = pieces_of_one b p ∷ []
put_in b p (g ∷ gs) = if nat_lt g.buffer b then g ∷ put_in b p gs
    else (if g.buffer == b then record { buffer = b; pieces = put_piece p g.pieces } ∷ gs
    else pieces_of_one b p ∷ g ∷ gs)

abbrev pub piece_of : Part → Piece → Piece
piece_of q p = record { start = q.start; end = q.end; text = p.text }

abbrev pub put_part : Option Part → Piece → List BufferPieces → List BufferPieces
put_part None p gs = gs
put_part (Some q) p gs = put_in q.buffer (piece_of q p) gs

-- with the pieces of further changes
abbrev pub split_from : List Excerpt → List Piece → List BufferPieces → List BufferPieces
split_from xs [] gs = gs
split_from xs (p ∷ ps) gs = split_from xs ps (put_part (part_of xs p) p gs)

-- the pieces of each buffer that has some, buffers ascending; of one buffer by their starts, and in their old order where these
-- are equal
abbrev pub split_of : MultiState → List Piece → List BufferPieces
split_of m ps = split_from m.excerpts ps []

-- an edit of the buffer as it was synced last meets no fault of its pieces' places, nor of the length of their texts
pub record IsFaultless (m : MultiState) (g : BufferPieces) : Type 0 where
  pub places : piece_fault (text (history_of g.buffer m.synced)) g.pieces ≡ None
  pub texts : text_total g.pieces ≤ text_limit
