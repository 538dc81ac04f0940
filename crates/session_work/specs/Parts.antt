-- An edit of excerpts, which is an edit of each replica that has some of its pieces.
use Rattle.std.specs.Prelude.{ℕ, ◌+◌, List, [], ◌∷◌, ◌++◌, map, Option, None, Some, option_map, Result, Ok, Err}
use Rattle.std.specs.Result.{result_ok}
use Rattle.op_model.specs.Operations.{stamp_of}
use Rattle.op_model.specs.declared.operation.Operation.{Operation}
use Rattle.op_model.specs.declared.operation.Piece.{Piece}
use Rattle.multi_buffer.specs.declared.parts.BufferPieces.{BufferPieces}
use Rattle.text_buffer.specs.Buffer.{BufferState, after_apply, after_settle, edit_fault, edit_of}
use Rattle.session_excerpts.specs.Answers.{pieces_at}
use Rattle.session_excerpts.specs.declared.answers.SplitAnswer.{SplitAnswer}
use Rattle.session_excerpts.specs.declared.answers.SplitAnswer.TheVariants as split
use Rattle.session_lines.specs.Session.{unless}
use Rattle.session_lines.specs.declared.report.Report.{Report}
use Rattle.session_more.specs.declared.report.MeditAnswer.{MeditAnswer}
use Rattle.session_more.specs.declared.report.MeditAnswer.TheVariants as medit
use Rattle.session_more.specs.declared.report.NumberAnswer.{NumberAnswer}
use Rattle.session_more.specs.declared.report.PartAnswer.{PartAnswer}
use Rattle.session_more.specs.declared.report.PartAnswer.TheVariants as part
use Rattle.session_work.specs.Work.{State, settled_reports}

-- ---- one buffer

-- what comes of the pieces that it has, if it has some
abbrev pub part_outcome : Option (List Piece) → BufferState → Result Operation PartAnswer
part_outcome None b = Err part.Nothing
part_outcome (Some ps) b = unless (edit_of b ps) (option_map part.Refused (edit_fault b ps))

abbrev pub part_answer : Result Operation PartAnswer → PartAnswer
part_answer (Ok op) = part.Made (stamp_of op)
part_answer (Err a) = a

-- the buffer after it: an operation that was made is applied, and the buffer settles
abbrev pub after_part : Result Operation PartAnswer → BufferState → BufferState
after_part (Ok op) b = after_settle (after_apply b op)
after_part (Err a) b = b

-- what settling reports
abbrev pub part_settled : Result Operation PartAnswer → BufferState → List Report
part_settled (Ok op) b = settled_reports (after_apply b op)
part_settled (Err a) b = []

-- ---- all buffers, the first of which is buffer i

abbrev pub outcomes_from : ℕ → List BufferPieces → List BufferState → List (Result Operation PartAnswer)
outcomes_from i gs [] = []
outcomes_from i gs (b ∷ bs) = part_outcome (pieces_at i gs) b ∷ outcomes_from (i + 1) gs bs

abbrev pub after_parts_from : ℕ → List BufferPieces → List BufferState → List BufferState
after_parts_from i gs [] = []
after_parts_from i gs (b ∷ bs) = after_part (part_outcome (pieces_at i gs) b) b ∷ after_parts_from (i + 1) gs bs

abbrev pub settled_from : ℕ → List BufferPieces → List BufferState → List Report
settled_from i gs [] = []
settled_from i gs (b ∷ bs) = part_settled (part_outcome (pieces_at i gs) b) b ++ settled_from (i + 1) gs bs

-- the answers, with their numbers from n on
abbrev pub numbered : ℕ → List (Result Operation PartAnswer) → List NumberAnswer
numbered n [] = []
numbered n (o ∷ os) = record { number = n; answer = part_answer o } ∷ numbered (n + 1) os

-- ---- the line

-- the pieces of the replicas; none where the edit is refused
abbrev pub parts_of : Option SplitAnswer → List BufferPieces
parts_of None = []
parts_of (Some (split.Parts gs)) = gs
parts_of (Some (split.Refused e)) = []

-- what is said of it, the next number being n
abbrev pub medit_answer : ℕ → Option SplitAnswer → List BufferState → Option MeditAnswer
medit_answer n None bs = None
medit_answer n (Some (split.Parts gs)) bs = Some (medit.Numbers (numbered n (outcomes_from 0 gs bs)))
medit_answer n (Some (split.Refused e)) bs = Some (medit.Refused e)

-- each replica takes a number, under which the operation stands that it made, if it did
abbrev pub with_parts : List BufferPieces → State → State
with_parts gs s = record s {
  buffers = after_parts_from 0 gs s.buffers;
  operations = s.operations ++ map result_ok (outcomes_from 0 gs s.buffers);
}
