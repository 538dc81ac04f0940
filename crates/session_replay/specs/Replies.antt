-- Queries that are answered later than at their place, and the reports with their answers.
use Rattle.std.specs.Prelude.{◌≡◌, ℕ, ◌+◌, ◌≤◌, List, [], map, take, Option}
use Rattle.std.specs.List.{All, AllPairs}
use Rattle.std.specs.Option.{option_map_or}
use Rattle.op_model.specs.declared.operation.Operation.{Operation}
use Rattle.op_model.specs.Shown.{text}
use Rattle.text_buffer.specs.Buffer.{BufferState}
use Rattle.session_lines.specs.declared.report.Report.{Report}
use Rattle.session_more.specs.Reports.{more_report_text}
use Rattle.session_more.specs.declared.session.MoreSession.{MoreSession}
use Rattle.session_work.specs.MoreQueries.{more_queries_of, more_report_with, plain_end_of}
use Rattle.session_work.specs.Queries.{AskedQuery, answer_line}
use Rattle.session_work.specs.Work.{State, applied_count, buffer_of}
use Rattle.queries.specs.Asks.{worker_of}

-- a query, and the number of the operations on which it is answered, the base not counted
pub record Reply : Type 0 where
  pub query : AskedQuery
  pub count : ℕ

-- what a replica has applied, the base first; nothing where it is not there
abbrev pub history_or_empty : Option BufferState → List Operation
history_or_empty o = option_map_or (λ (b : BufferState). b.history) o []

-- what the replica of a reply has applied at the end of the session
abbrev pub history_at_end : State → Reply → List Operation
history_at_end end p = history_or_empty (buffer_of p.query.replica end.buffers)

-- the line of a reply: the plain answer on the text of the base and the first `count` operations after it at the end
abbrev pub reply_line : State → Reply → Report
reply_line end p = answer_line p.query.number p.count p.query.question (text (take (p.count + 1) (history_at_end end p)))

-- a reply counts no less than was applied at its query's place, and no more than is applied at the end
abbrev pub IsWithin : State → Reply → Type 0
IsWithin end p = (applied_count p.query.history ≤ p.count) × (p.count ≤ applied_count (history_at_end end p))

-- where two queries of one replica go to one worker, the later is not answered on fewer operations
abbrev pub NeverFalls : ℕ → Reply → Reply → Type 0
NeverFalls workers p q =
    p.query.replica ≡ q.query.replica → worker_of workers p.query.number ≡ worker_of workers q.query.number
    → p.count ≤ q.count

-- the replies to the queries of a session, in their order, with this number of workers; with none each is answered on
-- the spot
pub record AreReplies (s : MoreSession) (workers : ℕ) (ps : List Reply) : Type 0 where
  pub queries : map (λ (p : Reply). p.query) ps ≡ more_queries_of s
  pub within : All (IsWithin (plain_end_of s)) ps
  pub on_the_spot : workers ≡ 0 → All (λ (p : Reply). p.count ≡ applied_count p.query.history) ps
  pub never_falls : AllPairs (NeverFalls workers) ps

-- the text is the session's report with some replies to its queries that this number of workers may give
abbrev pub IsReport : MoreSession → ℕ → List ℕ → Type 0
IsReport s workers output =
    (ps : List Reply) × AreReplies s workers ps
    × (output ≡ more_report_text (more_report_with s (map (reply_line (plain_end_of s)) ps)))
