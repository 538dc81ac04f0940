-- The queries and the report of a session, which may have lines of further kinds.
use Rattle.std.specs.Prelude.{ℕ, ◌+◌, List, [], ◌∷◌, ◌++◌, length, map, None, Option}
use Rattle.std.specs.List.{flat_map}
use Rattle.session_lines.specs.declared.report.Report.{Report}
use Rattle.session_more.specs.declared.report.MoreReport.{MoreReport}
use Rattle.session_more.specs.declared.report.MoreReport.TheVariants.{Plain}
use Rattle.session_more.specs.declared.session.MoreLine.{MoreLine}
use Rattle.session_more.specs.declared.session.MoreLine.TheVariants as line
use Rattle.session_more.specs.declared.session.MoreSession.{MoreSession}
use Rattle.session_work.specs.declared.queries.Question.{Question}
use Rattle.session_work.specs.MoreWork.{MoreState, after_all_more, all_more_events, more_opening, more_step}
use Rattle.session_work.specs.Queries.{AskedQuery, plain_line, query_with, question_of}
use Rattle.session_work.specs.Work.{State, at_end}

-- ---- the queries of a session

-- the replica that a line asks, and what it asks, where the line is a query
abbrev pub more_question_of : MoreLine → Option (ℕ × Question)
more_question_of (line.Plain l) = question_of l
more_question_of (line.Select r name rs) = None
more_question_of (line.Share r name) = None
more_question_of (line.Selected r a) = None
more_question_of (line.Fold r start end) = None
more_question_of (line.Unfold r start end) = None
more_question_of (line.Folded r) = None
more_question_of (line.Display r o) = None
more_question_of (line.Excerpt name r start end) = None
more_question_of (line.Multi name) = None
more_question_of (line.Medit name ps) = None

-- the query that a line is, as query q
abbrev pub more_query_at : ℕ → MoreLine → MoreState → List AskedQuery
more_query_at q l s = query_with q s.plain (more_question_of l)

-- the queries of the lines, numbered from q
abbrev pub more_queries_from : ℕ → List MoreLine → MoreState → List AskedQuery
more_queries_from q [] s = []
more_queries_from q (l ∷ ls) s =
    more_query_at q l s ++ more_queries_from (q + length (more_query_at q l s)) ls (more_step l s)

abbrev pub more_queries_of : MoreSession → List AskedQuery
more_queries_of s = more_queries_from 1 s.lines (more_opening s)

-- ---- reports

-- the state at the end of a session
abbrev pub more_end_of : MoreSession → MoreState
more_end_of s = after_all_more s.lines (more_opening s)

-- what its replicas and the operations of its lines came to
abbrev pub plain_end_of : MoreSession → State
plain_end_of s = (more_end_of s).plain

-- the report with these lines for its queries: those of the events, those of the queries, those of the replicas
abbrev pub more_report_with : MoreSession → List Report → List MoreReport
more_report_with s answers =
    all_more_events s.lines (more_opening s) ++ map Plain (answers ++ flat_map at_end (plain_end_of s).buffers)

-- the plain report: each query is answered on the spot
unfoldable pub more_report_of : MoreSession → List MoreReport
more_report_of s = more_report_with s (map plain_line (more_queries_of s))
