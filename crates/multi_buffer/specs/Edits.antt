-- Edits of buffers by the pieces of changes of the text of all excerpts.
use Rattle.std.specs.Prelude.{◌≡◌, ℕ, List, [], ◌∷◌, Option, Some, None}
use Rattle.op_model.specs.declared.operation.Piece.{Piece}
use Rattle.op_model.specs.Rules.{text_under}
use Rattle.text_buffer.specs.Buffer.{BufferState, IsBuffer, after_edit, edit_fault}
use Rattle.multi_buffer.specs.declared.excerpt.Excerpt.{Excerpt}
use Rattle.multi_buffer.specs.declared.parts.Part.{Part}
use Rattle.multi_buffer.specs.declared.parts.BufferPieces.{BufferPieces}
use Rattle.multi_buffer.specs.State.{MultiState, history_of}
use Rattle.multi_buffer.specs.Calls.{after_sync}
use Rattle.multi_buffer.specs.Splits.{part_of}

-- the buffers by their numbers
abbrev pub Buffers : Type 0
Buffers = ℕ → BufferState

-- a text as it enters the buffer of a part
abbrev pub entered_text : Buffers → Option Part → List ℕ → List ℕ
entered_text bs None t = t
entered_text bs (Some q) t = text_under (bs q.buffer).endings t

-- a change with its text as it enters the buffer that it changes
abbrev pub entered_change : Buffers → List Excerpt → Piece → Piece
entered_change bs xs p = record { start = p.start; end = p.end; text = entered_text bs (part_of xs p) p.text }

-- the buffer is as it was synced last, and an edit of it by its pieces meets no fault
pub record MayEdit (bs : Buffers) (m : MultiState) (g : BufferPieces) : Type 0 where
  pub buffer : IsBuffer (bs g.buffer)
  pub newest : history_of g.buffer m.synced ≡ (bs g.buffer).history
  pub faultless : edit_fault (bs g.buffer) g.pieces ≡ None

-- each buffer that has pieces is history_after by them, and synced after that
abbrev pub after_edits : Buffers → List BufferPieces → MultiState → MultiState
after_edits bs [] m = m
after_edits bs (g ∷ gs) m = after_edits bs gs (after_sync g.buffer (after_edit (bs g.buffer) g.pieces).history m)
