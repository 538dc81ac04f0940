-- The operations that a session makes, and their records.
use Rattle.std.specs.Prelude.{ℕ, ◌+◌, List, [], ◌∷◌, ◌++◌, length, replicate, Option, None, Some, Result}
use Rattle.op_model.specs.declared.operation.Operation.{Operation}
use Rattle.record_lines.specs.Packing.{records_of}
use Rattle.session_more.specs.Lines.{number_count}
use Rattle.session_more.specs.declared.session.MoreLine.{MoreLine}
use Rattle.session_more.specs.declared.session.MoreSession.{MoreSession}
use Rattle.session_work.specs.MoreWork.{after_all_more, more_opening}
use Rattle.session_work.specs.Work.{operation_of}

-- the line of each number that the lines take, of which the first is line n, in a session of this number of replicas
abbrev pub lines_from : ℕ → ℕ → List MoreLine → List ℕ
lines_from replicas n [] = []
lines_from replicas n (l ∷ ls) = replicate (number_count replicas l) n ++ lines_from replicas (n + 1) ls

abbrev pub with_line : ℕ → Option Operation → List (ℕ × Operation) → List (ℕ × Operation)
with_line n None ops = ops
with_line n (Some op) ops = (n, op) ∷ ops

-- the operations after the first k, with the lines that these lines are: operation k + 1 is that of the first line
abbrev pub with_lines : ℕ → List ℕ → List (Option Operation) → List (ℕ × Operation)
with_lines k [] ops = []
with_lines k (n ∷ ns) ops = with_line n (operation_of (k + 1) ops) (with_lines (k + 1) ns ops)

-- the operations that the operation lines of a session make, by number, each with its line; the header is line 1
abbrev pub made_operations : MoreSession → List (ℕ × Operation)
made_operations s =
    with_lines 0 (lines_from (length s.replicas) 2 s.lines) (after_all_more s.lines (more_opening s)).plain.operations

-- their records, or the line of the first that is too long for one
abbrev pub session_records : MoreSession → Result (List ℕ) ℕ
session_records s = records_of (made_operations s)
