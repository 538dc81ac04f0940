-- Parts by the excerpt that has their start, and pieces of a buffer that may still grow, for private clauses.
use Rattle.std.specs.Prelude.{ℕ, ◌-◌, nat_le, nat_lt, Bool, if◌then◌else◌, Option, Some, None}
use Rattle.op_model.specs.declared.operation.Piece.{Piece}
use Rattle.multi_buffer.specs.State.{size}
use Rattle.multi_buffer.specs.Lengths.{offset_after}
use Rattle.multi_buffer.specs.Splits.{part_at}
use Rattle.multi_buffer.specs.declared.excerpt.Excerpt.{Excerpt}
use Rattle.multi_buffer.specs.declared.lengths.Lengths.{Lengths}
use Rattle.multi_buffer.specs.declared.parts.Part.{Part}
use Rattle.multi_buffer.specs.declared.grouping.Group.{Group}
use Rattle.multi_buffer.specs.declared.parts.BufferPieces.{BufferPieces}

abbrev pub part_here : Excerpt → Lengths → ℕ → ℕ → Option Part
part_here x b s e = if nat_le (e - offset_after b) (size x)
    then Some (part_at b.excerpts x (s - offset_after b) (e - offset_after b)) else None

abbrev pub pieces_in : Group → BufferPieces
pieces_in g = record { buffer = g.buffer; pieces = g.pieces.items }

-- the piece starts after an offset
abbrev pub is_after : ℕ → Piece → Bool
is_after o p = nat_lt o p.start

-- the group is of buffer b or of a greater one
abbrev pub is_from : ℕ → Group → Bool
is_from b g = nat_le b g.buffer
