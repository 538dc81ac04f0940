-- What an editor asks of the workers beside it, and what it leaves.
use Rattle.std.specs.Prelude.{◌≡◌, ℕ, ◌+◌, ◌≤◌, ◌==◌, List, [], ◌++◌, length, map}
use Rattle.std.specs.List.{AllZip, position_or_len}
use Rattle.op_model.specs.declared.operation.Operation.{Operation}
use Rattle.text_buffer.specs.Buffer.{BufferState}
use Rattle.text_buffer.specs.Document.{IsFront}
use Rattle.session_lines.specs.Heading.{most_replicas}
use Rattle.session_lines.specs.declared.report.Report.{Report}
use Rattle.session_lines.specs.declared.report.Report.TheVariants as report
use Rattle.session_lines.specs.declared.report.QueryAnswer.{QueryAnswer}
use Rattle.session_more.specs.Lines.{query_count}
use Rattle.session_more.specs.Reports.{more_report_text}
use Rattle.session_more.specs.declared.session.MoreLine.{MoreLine}
use Rattle.queries.specs.Asks.{Ask}
use Rattle.queries.specs.declared.query.Answer.{Answer}
use Rattle.queries.specs.Dealt.{HasAsked, pairs_in, queues_of}
use Rattle.queries.specs.Published.{AreLevel, AreTied, published_lists, rows_of}
use Rattle.queries.specs.Final.{IsReady}
use Rattle.queries.specs.States.{DispatcherState, PublishersState}
use Rattle.session_work.specs.MoreQueries.{more_queries_from}
use Rattle.session_work.specs.MoreWork.{after_all_more, all_more_events}
use Rattle.session_work.specs.Queries.{AskedQuery}
use Rattle.session_work.specs.declared.queries.Question.{Question}
use Rattle.session_work.specs.Work.{applied_count, histories}
use Rattle.session_work.specs.Room.{HasRoom}
use Rattle.session_work.specs.Working.{buffers_of, more_state_of}
use Rattle.session_replay.specs.declared.beside.Editor.{Editor}
use Rattle.session_replay.specs.declared.beside.Edited.{Edited}

-- the index of replica r
abbrev pub index_among : List BufferState → ℕ → ℕ
index_among bs r = position_or_len (λ (b : BufferState). b.replica == r) bs

-- what a query asks of a worker, its replica being named by its index
abbrev pub ask_among : List BufferState → AskedQuery → Ask Question
ask_among bs c =
    record { number = c.number; index = index_among bs c.replica; query = c.question; history = c.history }

abbrev pub asks_among : List BufferState → List AskedQuery → List (Ask Question)
asks_among bs cs = map (ask_among bs) cs

-- the line of an answer
abbrev pub line_of : Answer Question QueryAnswer → Report
line_of a = report.Query a.number (applied_count a.snapshot) a.answer

-- an editor over these buffers that has asked this: each pair shows a front of what its replica has applied
pub record IsAsking (bs : List BufferState) (asks : List (Ask Question))
    (d : DispatcherState Question) (p : PublishersState) : Type 0 where
  pub few : length bs ≤ most_replicas
  pub asked : HasAsked d asks
  pub level : AreLevel p
  pub tied : AreTied d.inboxes p
  pub fronts : AllZip IsFront (published_lists p) (histories bs)

-- an editor over bs asks more, and is over cs then: whatever it had asked, it has asked these queries too, the first of
-- which has the next number
abbrev pub AsksMore : List BufferState → DispatcherState Question → PublishersState
    → (ℕ → List AskedQuery) → List BufferState → DispatcherState Question → PublishersState → Type 0
AsksMore bs d p queries cs e q = (asks : List (Ask Question))
    → IsAsking bs asks d p → IsAsking cs (asks ++ asks_among bs (queries (length asks + 1))) e q

-- the queues, the pairs and the room are as before
pub record KeepsEnds (d : DispatcherState Question) (p : PublishersState)
    (e : DispatcherState Question) (q : PublishersState) : Type 0 where
  pub workers : q.workers ≡ p.workers
  pub rows : rows_of q ≡ rows_of p
  pub queues : queues_of e.inboxes ≡ queues_of d.inboxes
  pub pairs : pairs_in e.inboxes ≡ pairs_in d.inboxes
  pub limit : e.limit ≡ d.limit

-- an editor over these buffers that has asked this has left: its answers can be gathered from the other ends of the
-- same queues
pub record HasLeft (bs : List BufferState) (asks : List (Ask Question))
    (d : DispatcherState Question) (e : Edited) : Type 0 where
  pub published : List (List Operation)
  pub fronts : AllZip IsFront published (histories bs)
  pub ready : IsReady e.gathering.inboxes.items (map (λ v. v.items) e.gathering.tolds.items)
      e.gathering.sizes.items published asks
  pub count : e.gathering.count ≡ length asks
  pub queues : queues_of e.gathering.inboxes.items ≡ queues_of d.inboxes
  pub pairs : pairs_in e.gathering.inboxes.items ≡ pairs_in d.inboxes

-- an editor that has asked nothing yet, and has room for the queries and the excerpts of these lines
pub record CanEdit (lines : List MoreLine) (o : Editor) (p : PublishersState) : Type 0 where
  pub asking : IsAsking (buffers_of o.progress) [] o.dispatcher p
  pub workers : o.workers ≡ p.workers
  pub room : o.dispatcher.count + query_count lines ≤ o.dispatcher.limit
  pub few : HasRoom (length lines) (more_state_of o.progress)

-- an editor that has worked these lines and asked their queries has left
pub record HasEdited (lines : List MoreLine) (o : Editor) (e : Edited) : Type 0 where
  pub report : e.progress.plain.report.items
      ≡ o.progress.plain.report.items ++ more_report_text (all_more_events lines (more_state_of o.progress))
  pub state : more_state_of e.progress ≡ after_all_more lines (more_state_of o.progress)
  pub left : HasLeft (buffers_of e.progress)
      (asks_among (buffers_of o.progress) (more_queries_from 1 lines (more_state_of o.progress)))
      o.dispatcher e
