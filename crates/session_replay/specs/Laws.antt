-- What the report of a session is that is replayed without workers.
use Rattle.std.specs.Prelude.{◌≡◌, ℕ, ◌≤◌, List, length, Ok, ◌↔◌, false}
use Rattle.session_lines.specs.Session.{session_of_text}
use Rattle.session_lines.specs.Report.{report_text}
use Rattle.session_lines.specs.declared.session.Session.{Session}
use Rattle.session_more.specs.Decoding.{more_session_of_text}
use Rattle.session_more.specs.Lines.{query_count}
use Rattle.session_more.specs.Reports.{more_report_text}
use Rattle.session_more.specs.declared.session.MoreSession.{MoreSession}
use Rattle.session_work.specs.MoreQueries.{more_report_of}
use Rattle.session_work.specs.Queries.{report_of}
use Rattle.session_replay.specs.Replay.{Does, Migrates, Refuses, Replays, response_of}
use Rattle.session_work.specs.Work.{session_limit}
use Rattle.command_words.specs.declared.command.Task.{Task}
use Rattle.command_words.specs.declared.command.Task.TheVariants as task
use Rattle.session_replay.specs.declared.top.Status.TheVariants as status

-- without workers the output is the plain report, whatever the order in which operations came
abbrev pub PlainWithoutWorkers : Type 0
PlainWithoutWorkers = (input output : List ℕ) → Replays input output 0
    → (s : MoreSession) × (more_session_of_text false input ≡ Ok s) × (output ≡ more_report_text (more_report_of s))

-- so it is for a session without queries, whatever the number of workers
abbrev pub PlainWithoutQueries : Type 0
PlainWithoutQueries = (input output : List ℕ) → (workers : ℕ) → Replays input output workers
    → (s : MoreSession) → more_session_of_text false input ≡ Ok s
    → query_count s.lines ≡ 0 → output ≡ more_report_text (more_report_of s)

-- and the plain report is one of each number of workers
abbrev pub PlainWithWorkers : Type 0
PlainWithWorkers = (input : List ℕ) → (s : MoreSession) → (workers : ℕ)
    → more_session_of_text false input ≡ Ok s → Replays input (more_report_text (more_report_of s)) workers

-- a session of the lines of `session_lines` alone has the report that these lines have, whatever lines there are
-- beside them
abbrev pub OldReportsStay : Type 0
OldReportsStay = (input output : List ℕ) → Replays input output 0
    → (s : Session) → session_of_text false input ≡ Ok s → output ≡ report_text (report_of s)

-- what `migrate` writes has the report of its input, without workers
abbrev pub MigratedReportsAlike : Type 0
MigratedReportsAlike = (input output report : List ℕ) → Migrates input output
    → Replays input report 0 ↔ Replays output report 0

-- ---- every task

-- an input that is refused is answered with the line of the plain response
abbrev pub RefusalsArePlain : Type 0
RefusalsArePlain = (c : Task) → (input output : List ℕ) → Refuses c input output → (response_of c input).1 ≡ output

-- so are the records of a session, and the lines of records
abbrev pub RecordsArePlain : Type 0
RecordsArePlain = (input output : List ℕ) → length input ≤ session_limit
    → (Does task.Pack input output → response_of task.Pack input ≡ (status.Done, output))
    × (Does task.Unpack input output → response_of task.Unpack input ≡ (status.Done, output))
