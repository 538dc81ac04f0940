-- The queries of a session: what they ask, the plain answers, and on which text each may be answered.
use Rattle.std.specs.Prelude.{ℕ, ◌+◌, ◌==◌, List, [], ◌∷◌, ◌++◌, length, map, Option, None, Some, if◌then◌else◌}
use Rattle.std.specs.List.{flat_map}
use Rattle.std.specs.Option.{option_map, unwrap_or}
use Rattle.text_dims.specs.declared.points.Point.{Point}
use Rattle.text_dims.specs.declared.places.Place.{Place}
use Rattle.text_dims.specs.Places.{place_at_offset, place_at_point, offset_clip_back, offset_clip_on, point_clip_back, point_clip_on, point_of, offset_utf16_of, point_utf16_of}
use Rattle.snapshot_search.specs.Starts.{starts}
use Rattle.op_model.specs.declared.operation.Operation.{Operation}
use Rattle.op_model.specs.Shown.{text}
use Rattle.text_buffer.specs.Buffer.{BufferState}
use Rattle.session_lines.specs.declared.session.SessionLine.{SessionLine}
use Rattle.session_lines.specs.declared.session.SessionLine.TheVariants as line
use Rattle.session_lines.specs.declared.session.Session.{Session}
use Rattle.session_lines.specs.declared.report.FindAnswer.{FindAnswer}
use Rattle.session_lines.specs.declared.report.FindAnswer.TheVariants.{Starts, EmptyNeedle}
use Rattle.session_lines.specs.declared.report.PointAnswer.{PointAnswer}
use Rattle.session_lines.specs.declared.report.PointAnswer.TheVariants as point
use Rattle.session_lines.specs.declared.report.OffsetAnswer.{OffsetAnswer}
use Rattle.session_lines.specs.declared.report.OffsetAnswer.TheVariants as offset
use Rattle.session_lines.specs.declared.report.QueryAnswer.{QueryAnswer}
use Rattle.session_lines.specs.declared.report.QueryAnswer.TheVariants as query
use Rattle.session_lines.specs.declared.report.Report.{Report}
use Rattle.session_lines.specs.declared.report.Report.TheVariants as report
use Rattle.session_work.specs.declared.queries.Question.{Question}
use Rattle.session_work.specs.declared.queries.Question.TheVariants.{StartsOf, PointOf, OffsetOf}
use Rattle.session_work.specs.Work.{State, after_all, all_events, applied_count, at_end, buffer_of, opening, step}

-- ---- the plain answers, on a text

-- all places of the needle
abbrev pub find_answer : List ℕ → List ℕ → FindAnswer
find_answer needle t = if length needle == 0 then EmptyNeedle else Starts (starts t needle)

-- a place as a point, as an offset in UTF-16 units and as a point in UTF-16 units
abbrev pub place_answer : Place → PointAnswer
place_answer k = point.Point (point_of k) (offset_utf16_of k) (point_utf16_of k)

-- the place at a byte offset, or where that is clipped to
abbrev pub point_answer : ℕ → List ℕ → PointAnswer
point_answer o t =
    unwrap_or (option_map place_answer (place_at_offset t o))
    (point.Clips (offset_clip_back t o).offset (offset_clip_on t o).offset)

-- the place at a point, or where that is clipped to
abbrev pub offset_answer : Point → List ℕ → OffsetAnswer
offset_answer p t =
    unwrap_or (option_map (λ (k : Place). offset.Offset k.offset) (place_at_point t p))
    (offset.Clips (point_of (point_clip_back t p)) (point_of (point_clip_on t p)))

-- the plain answer to what a query asks of a text
abbrev pub answer_on : Question → List ℕ → QueryAnswer
answer_on (StartsOf needle) t = query.Find (find_answer needle t)
answer_on (PointOf o) t = query.Point (point_answer o t)
answer_on (OffsetOf p) t = query.Offset (offset_answer p t)

-- the plain answer on what a replica has applied
abbrev pub plain_answer : Question → List Operation → QueryAnswer
plain_answer ask h = answer_on ask (text h)

-- the line of query q, plainly answered on a text of n operations
abbrev pub answer_line : ℕ → ℕ → Question → List ℕ → Report
answer_line q n ask t = report.Query q n (answer_on ask t)

-- the replica that a line asks, and what it asks, where the line is a query
abbrev pub question_of : SessionLine → Option (ℕ × Question)
question_of (line.Edit r ps) = None
question_of (line.Undo r ms) = None
question_of (line.Op e) = None
question_of (line.Uop u) = None
question_of (line.Give r n) = None
question_of (line.Text r) = None
question_of (line.Anchor r n o b) = None
question_of (line.Where r n) = None
question_of (line.Mark r n) = None
question_of (line.Since r n) = None
question_of (line.Find r needle) = Some (r, StartsOf needle)
question_of (line.Point r o) = Some (r, PointOf o)
question_of (line.Offset r row column) = Some (r, OffsetOf (record { row = row; column = column }))
question_of (line.Reopen r) = None

-- ---- the queries of a session

-- a query: its number, the replica that it asks, what that has applied at the query's place in the session, and what it asks
pub record AskedQuery : Type 0 where
  pub number : ℕ
  pub replica : ℕ
  pub history : List Operation
  pub question : Question

-- query q of a replica's buffer; a replica that is not there is not asked
abbrev pub query_of : ℕ → ℕ → Question → Option BufferState → List AskedQuery
query_of q r ask None = []
query_of q r ask (Some b) = record { number = q; replica = r; history = b.history; question = ask } ∷ []

abbrev pub query_with : ℕ → State → Option (ℕ × Question) → List AskedQuery
query_with q s None = []
query_with q s (Some a) = query_of q a.0 a.1 (buffer_of a.0 s.buffers)

-- the query that a line is, as query q
abbrev pub query_at : ℕ → SessionLine → State → List AskedQuery
query_at q l s = query_with q s (question_of l)

-- the queries of the lines, numbered from q
abbrev pub queries_from : ℕ → List SessionLine → State → List AskedQuery
queries_from q [] s = []
queries_from q (l ∷ ls) s = query_at q l s ++ queries_from (q + length (query_at q l s)) ls (step l s)

abbrev pub queries_of : Session → List AskedQuery
queries_of s = queries_from 1 s.lines (opening s)

-- ---- reports

-- the state at the end of a session
abbrev pub end_of : Session → State
end_of s = after_all s.lines (opening s)

-- the report with these lines for its queries: those of the events, those of the queries, those of the replicas
abbrev pub report_with : Session → List Report → List Report
report_with s answers = all_events s.lines (opening s) ++ (answers ++ flat_map at_end (end_of s).buffers)

-- the line of a query that is answered on the spot, at its place in the session
abbrev pub plain_line : AskedQuery → Report
plain_line c = answer_line c.number (applied_count c.history) c.question (text c.history)

-- the plain report: each query is answered on the spot
unfoldable pub report_of : Session → List Report
report_of s = report_with s (map plain_line (queries_of s))
