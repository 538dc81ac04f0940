-- What the lines of a session report, and what they do to the buffers of its replicas.
use Rattle.std.specs.Prelude.{ℕ, ◌+◌, ◌-◌, ◌^◌, ◌==◌, List, [], ◌∷◌, ◌++◌, length, map, get_or, Option, Some, None, is_none, option_and_then, option_map, Result, Ok, Err, if◌then◌else◌}
use Rattle.std.specs.List.{find, flat_map}
use Rattle.std.specs.Option.{option_map_or}
use Rattle.std.specs.Result.{result_ok}
use Rattle.lamport_clock.specs.Versions.{Entries}
use Rattle.lamport_clock.specs.declared.stamp.Lamport.{Lamport}
use Rattle.op_model.specs.Anchors.{place_fault}
use Rattle.op_model.specs.Histories.{History, version}
use Rattle.op_model.specs.declared.anchor.Anchor.{Anchor}
use Rattle.op_model.specs.Operations.{stamp_of}
use Rattle.op_model.specs.declared.operation.Piece.{Piece}
use Rattle.op_model.specs.declared.operation.Operation.{Operation}
use Rattle.op_model.specs.declared.operation.Operation.TheVariants as operation
use Rattle.op_model.specs.declared.faults.OpFault.{OpFault}
use Rattle.op_model.specs.Answers.{Answer}
use Rattle.op_model.specs.Answers.Answer.{Good, Repeat, Waits, Refused}
use Rattle.op_model.specs.Choice.{first_of}
use Rattle.op_model.specs.Shown.{text}
use Rattle.text_buffer.specs.Buffer.{BaseText, BufferState, base_under, answer_to, after_apply, edit_fault, edit_of, undo_of, number_applied, over_base, after_settle, after_take, undo_fault}
use Rattle.text_dims.specs.Counts.{rows}
use Rattle.text_dims.specs.Summaries.{end_point}
use Rattle.session_lines.specs.Session.{endings_of, unless}
use Rattle.session_lines.specs.declared.session.SessionLine.{SessionLine}
use Rattle.session_lines.specs.declared.session.SessionLine.TheVariants as line
use Rattle.session_lines.specs.declared.session.Session.{Session}
use Rattle.session_lines.specs.declared.report.GiveAnswer.{GiveAnswer}
use Rattle.session_lines.specs.declared.report.GiveAnswer.TheVariants as given
use Rattle.session_lines.specs.declared.report.TextHead.TheVariants as head
use Rattle.session_lines.specs.declared.report.Report.{Report}
use Rattle.session_lines.specs.declared.report.Report.TheVariants as report
use Rattle.session_work.specs.Names.{Names, anchor_answer, new_anchor, since_answer, under, where_answer, with_name}

-- the most bytes that a session may have
abbrev pub session_limit : ℕ
session_limit = 67108864

-- ---- the buffers of a session

-- a session as far as it was worked: the buffers of its replicas, in the header's order, and the operation of each operation
-- line, in their order, None where the line was refused; and the anchors and the versions that it keeps under names
pub record State : Type 0 where
  pub buffers : List BufferState
  pub operations : List (Option Operation)
  pub anchors : Names Anchor
  pub marks : Names Entries

-- the buffer of replica r
abbrev pub buffer_of : ℕ → List BufferState → Option BufferState
buffer_of r bs = find (λ b. b.replica == r) bs

-- what replica r has applied, the base first, where the replica is there
abbrev pub history_at : ℕ → State → Option History
history_at r s = option_map (λ b. b.history) (buffer_of r s.buffers)

-- what each replica has applied
abbrev pub histories : List BufferState → List History
histories bs = map (λ (b : BufferState). b.history) bs

-- the buffers, that of replica r changed by f
abbrev pub with_buffer : ℕ → (BufferState → BufferState) → List BufferState → List BufferState
with_buffer r f [] = []
with_buffer r f (b ∷ bs) = if b.replica == r then f b ∷ bs else b ∷ with_buffer r f bs

-- the operation that stands under number n, which counts from 1
abbrev pub operation_of : ℕ → List (Option Operation) → Option Operation
operation_of n ops = get_or ops (n - 1) None

-- the number of the operation line that comes next
abbrev pub next_number : State → ℕ
next_number s = length s.operations + 1

-- ---- an operation line at a buffer: it makes an operation there, or reports what refuses it

-- what comes of an edit as operation line n
abbrev pub edit_outcome : ℕ → List Piece → BufferState → Result Operation Report
edit_outcome n ps b = unless (edit_of b ps) (option_map (report.EditRefused n) (edit_fault b ps))

-- the first of the numbers under which no operation stands
abbrev pub first_unnamed : List (Option Operation) → List ℕ → Option ℕ
first_unnamed ops ms = find (λ m. is_none (operation_of m ops)) ms

-- the stamps of the operations that stand under the numbers
abbrev pub stamps_under : List (Option Operation) → List ℕ → List Lamport
stamps_under ops ms =
    flat_map (λ m. option_map_or (λ (op : Operation). stamp_of op ∷ []) (operation_of m ops) []) ms

-- what refuses it, if anything does; a number without an operation does before every fault
abbrev pub undo_refusal : ℕ → List (Option Operation) → List ℕ → BufferState → Option Report
undo_refusal n ops ms b = first_of (
    option_map (report.Unnamed n) (first_unnamed ops ms)
    ∷ option_map (report.UndoRefused n) (undo_fault b (stamps_under ops ms))
    ∷ [])

-- what comes of an undo as operation line n
abbrev pub undo_outcome : ℕ → List (Option Operation) → List ℕ → BufferState → Result Operation Report
undo_outcome n ops ms b = unless (undo_of b (stamps_under ops ms)) (undo_refusal n ops ms b)

-- what settling reports, where it applied any
abbrev pub settled_reports : BufferState → List Report
settled_reports b = let c = number_applied b (after_settle b) in if c == 0 then [] else report.Settled b.replica c ∷ []

-- what operation line n reports, by what came of it
abbrev pub outcome_reports : ℕ → Result Operation Report → BufferState → List Report
outcome_reports n (Ok op) b = report.Made n (stamp_of op) ∷ settled_reports (after_apply b op)
outcome_reports n (Err r) b = r ∷ []

-- the buffer after it: an operation that was made is applied, and the buffer settles
abbrev pub after_outcome : Result Operation Report → BufferState → BufferState
after_outcome (Ok op) b = after_settle (after_apply b op)
after_outcome (Err r) b = b

-- ---- what stands under a number is given to a buffer: an operation, or nothing

abbrev pub give_answer_for : Answer → ℕ → GiveAnswer
give_answer_for Good c = given.Applied c
give_answer_for Repeat c = given.Repeat
give_answer_for (Waits r v) c = given.Waits r v
give_answer_for (Refused f) c = given.Refused f

-- what the buffer answers; where it applied the operation, with how many it applied in all
abbrev pub give_answer : Option Operation → BufferState → GiveAnswer
give_answer None b = given.Nothing
give_answer (Some op) b = give_answer_for (answer_to b op) (number_applied b (after_take b op))

-- the buffer after it
abbrev pub after_give : Option Operation → BufferState → BufferState
after_give None b = b
after_give (Some op) b = after_take b op

-- ---- a buffer is opened with what it has applied; what waits or was refused there is gone

-- how many operations a history has, the base not counted
abbrev pub applied_count : List Operation → ℕ
applied_count h = length h - 1

abbrev pub after_reopen : BufferState → BufferState
after_reopen b = record b { waiting = []; refused = [] }

-- ---- a text is shown, with its bytes, its line feeds, the bytes after the last of them, and its rows

abbrev pub text_report : BufferState → Report
text_report b =
    let t = text b.history in
    let p = end_point t in
    report.Text (head.CurrentText b.replica (length t) p.row p.column (length (rows t))) t

-- ---- a line

abbrev pub reports_at : {A : Type 0} → (A → List Report) → Option A → List Report
reports_at f o = option_map_or f o []

-- what the next operation line reports, f being its outcome at the buffer of replica r
abbrev pub line_events : ℕ → (BufferState → Result Operation Report) → State → List Report
line_events r f s = reports_at (λ b. outcome_reports (next_number s) (f b) b) (buffer_of r s.buffers)

-- what changed since a version, if one is under the name; no session asks for a name without one
abbrev pub since_reports : List ℕ → ℕ → Option Entries → History → List Report
since_reports name r None h = []
since_reports name r (Some v) h = report.Since name r (since_answer v h) ∷ []

-- what the line reports as an event, which a query does not; a replica that is not there reports nothing, and no session has a
-- line of one
abbrev pub events : SessionLine → State → List Report
events (line.Edit r ps) s = line_events r (edit_outcome (next_number s) ps) s
events (line.Undo r ms) s = line_events r (undo_outcome (next_number s) s.operations ms) s
events (line.Op e) s = report.Made (next_number s) e.stamp ∷ []
events (line.Uop u) s = report.Made (next_number s) u.stamp ∷ []
events (line.Give r n) s =
    reports_at (λ b. report.Give n r (give_answer (operation_of n s.operations) b) ∷ []) (buffer_of r s.buffers)
events (line.Text r) s = reports_at (λ b. text_report b ∷ []) (buffer_of r s.buffers)
events (line.Anchor r name o b) s =
    reports_at (λ h. report.Anchor name (anchor_answer (place_fault h o)) ∷ []) (history_at r s)
events (line.Where r name) s =
    reports_at (λ h. report.Where name r (where_answer (under name s.anchors) h) ∷ []) (history_at r s)
events (line.Mark r name) s = reports_at (λ h. report.Mark name ∷ []) (history_at r s)
events (line.Since r name) s = reports_at (since_reports name r (under name s.marks)) (history_at r s)
events (line.Find r needle) s = []
events (line.Point r o) s = []
events (line.Offset r row column) s = []
events (line.Reopen r) s = reports_at (λ b. report.Reopen r (applied_count b.history) ∷ []) (buffer_of r s.buffers)

-- the session with these buffers after one more operation line, and with what stands under its number
abbrev pub with_operation_line : List BufferState → Option Operation → State → State
with_operation_line bs o s = record s { buffers = bs; operations = s.operations ++ o ∷ [] }

-- the session after the next operation line, f being its outcome at the buffer of replica r
abbrev pub after_line : ℕ → (BufferState → Result Operation Report) → State → State
after_line r f s =
    with_operation_line (with_buffer r (λ b. after_outcome (f b) b) s.buffers)
    (option_and_then (λ b. result_ok (f b)) (buffer_of r s.buffers)) s

-- the session after the line
abbrev pub step : SessionLine → State → State
step (line.Edit r ps) s = after_line r (edit_outcome (next_number s) ps) s
step (line.Undo r ms) s = after_line r (undo_outcome (next_number s) s.operations ms) s
step (line.Op e) s = with_operation_line s.buffers (Some (operation.Edit e)) s
step (line.Uop u) s = with_operation_line s.buffers (Some (operation.Undo u)) s
step (line.Give r n) s = record s { buffers = with_buffer r (after_give (operation_of n s.operations)) s.buffers }
step (line.Text r) s = s
step (line.Anchor r name o b) s =
    record s { anchors = with_name name (option_and_then (new_anchor o b) (history_at r s)) s.anchors }
step (line.Where r name) s = s
step (line.Mark r name) s = record s { marks = with_name name (option_map version (history_at r s)) s.marks }
step (line.Since r name) s = s
step (line.Find r needle) s = s
step (line.Point r o) s = s
step (line.Offset r row column) s = s
step (line.Reopen r) s = record s { buffers = with_buffer r after_reopen s.buffers }

-- ---- all lines

abbrev pub all_events : List SessionLine → State → List Report
all_events [] s = []
all_events (l ∷ ls) s = events l s ++ all_events ls (step l s)

abbrev pub after_all : List SessionLine → State → State
after_all [] s = s
after_all (l ∷ ls) s = after_all ls (step l s)

-- an operation that replica r refused while it settled
abbrev pub refused_report : ℕ → Lamport × OpFault → Report
refused_report r e = report.Refused r e.0 e.1

-- what a replica counts at the end; the base is no applied operation
abbrev pub counts_report : BufferState → Report
counts_report b =
    report.Replica b.replica (length (text b.history)) (length (rows (text b.history)))
    (applied_count b.history) (length b.waiting) (length b.refused)

-- what a replica reports at the end
abbrev pub at_end : BufferState → List Report
at_end b =
    counts_report b
    ∷ (map (refused_report b.replica) b.refused ++ report.Text (head.FinalText b.replica) (text b.history) ∷ [])

-- the base of a session's buffers: its text as it enters, by the session's version
abbrev pub base_of : Session → BaseText
base_of s = base_under (endings_of s.version) s.base

-- a replica's buffer at first, with the limits of a session's buffers
abbrev pub first_buffer : BaseText → ℕ → BufferState
first_buffer base r = over_base r base (record { bytes = 2 ^ 40; entries = 2 ^ 40 - 1 })

abbrev pub opening : Session → State
opening s = record { buffers = map (first_buffer (base_of s)) s.replicas; operations = []; anchors = []; marks = [] }
