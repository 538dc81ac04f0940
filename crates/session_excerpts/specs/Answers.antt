-- What a report says of the calls of a multibuffer. A failed allocation is not reported.
use Rattle.std.specs.Prelude.{ℕ, ◌==◌, List, length, Option, None, Some, option_map, Result, Ok, Err}
use Rattle.std.specs.List.{find}
use Rattle.op_model.specs.Histories.{History}
use Rattle.op_model.specs.Shown.{text}
use Rattle.op_model.specs.declared.operation.Piece.{Piece}
use Rattle.multi_buffer.specs.Calls.{after_push, push_fault}
use Rattle.multi_buffer.specs.Splits.{split_fault, split_of}
use Rattle.multi_buffer.specs.State.{MultiState}
use Rattle.multi_buffer.specs.declared.faults.PushFault.{PushFault}
use Rattle.multi_buffer.specs.declared.faults.PushFault.TheVariants as push_as
use Rattle.multi_buffer.specs.declared.faults.SplitFault.{SplitFault}
use Rattle.multi_buffer.specs.declared.faults.SplitFault.TheVariants as split_as
use Rattle.multi_buffer.specs.declared.parts.BufferPieces.{BufferPieces}
use Rattle.session_lines.specs.Session.{unless}
use Rattle.session_more.specs.declared.report.ExcerptAnswer.{ExcerptAnswer}
use Rattle.session_more.specs.declared.report.ExcerptAnswer.TheVariants as excerpt_as
use Rattle.session_more.specs.declared.report.SplitRefusal.{SplitRefusal}
use Rattle.session_more.specs.declared.report.SplitRefusal.TheVariants as refused_as
use Rattle.session_excerpts.specs.declared.answers.SplitAnswer.{SplitAnswer}
use Rattle.session_excerpts.specs.declared.answers.SplitAnswer.TheVariants.{Parts, Refused}

-- ---- s..e of a buffer, whose history is h, is put as an excerpt

-- its index, or the fault of the range
abbrev pub push_outcome : History → ℕ → ℕ → MultiState → Result ℕ PushFault
push_outcome h s e m = unless (length m.excerpts) (push_fault (text h) s e)

abbrev pub excerpt_answer : Result ℕ PushFault → Option ExcerptAnswer
excerpt_answer (Ok i) = Some (excerpt_as.Index i)
excerpt_answer (Err (push_as.Reversed i)) = Some (excerpt_as.Reversed i)
excerpt_answer (Err (push_as.PastEnd i len)) = Some (excerpt_as.PastEnd i len)
excerpt_answer (Err (push_as.InsideChar i)) = Some (excerpt_as.InsideChar i)
excerpt_answer (Err push_as.OutOfMemory) = None

-- the excerpts of buffer b and others after it, by the fault of the range
abbrev pub push_unless : Option PushFault → ℕ → History → ℕ → ℕ → MultiState → MultiState
push_unless None b h s e m = after_push b h s e m
push_unless (Some f) b h s e m = m

abbrev pub after_put : ℕ → History → ℕ → ℕ → MultiState → MultiState
after_put b h s e m = push_unless (push_fault (text h) s e) b h s e m

-- ---- changes of the text of excerpts are split

-- the pieces of each buffer that has some, or the fault of the changes
abbrev pub split_outcome : List Piece → MultiState → Result (List BufferPieces) SplitFault
split_outcome ps m = unless (split_of m ps) (split_fault m ps)

abbrev pub refusal : SplitFault → Option SplitRefusal
refusal (split_as.Reversed i) = Some (refused_as.Reversed i)
refusal (split_as.Overlap i) = Some (refused_as.Overlap i)
refusal (split_as.PastEnd i len) = Some (refused_as.PastEnd i len)
refusal (split_as.InsideChar i) = Some (refused_as.InsideChar i)
refusal (split_as.TextLimit n) = Some (refused_as.TextLimit n)
refusal (split_as.Crosses i) = Some (refused_as.Crosses i)
refusal (split_as.Shared i x) = Some (refused_as.Shared i x)
refusal split_as.OutOfMemory = None

abbrev pub split_answer : Result (List BufferPieces) SplitFault → Option SplitAnswer
split_answer (Ok gs) = Some (Parts gs)
split_answer (Err e) = option_map Refused (refusal e)

-- the pieces of buffer b among those of all, if it has some
abbrev pub pieces_at : ℕ → List BufferPieces → Option (List Piece)
pieces_at b gs = option_map (λ g. g.pieces) (find (λ g. g.buffer == b) gs)
