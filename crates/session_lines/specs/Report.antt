-- The lines of a report.
use Rattle.std.specs.Prelude.{ℕ, ◌+◌, Bool, true, false, List, [], ◌∷◌, ◌++◌, length, map, codes, decimal, Option}
use Rattle.std.specs.Iterator.{Drains}
use Rattle.std.specs.List.{concat, flat_map, join_by}
use denote.Bor.{Bor}
use Rattle.json.specs.Print.{quoted}
use Rattle.lamport_clock.specs.Stamps.{stamp_text}
use Rattle.lamport_clock.specs.declared.stamp.Lamport.{Lamport}
use Rattle.op_model.specs.declared.faults.Unit.{Unit as LimitUnit}
use Rattle.op_model.specs.declared.faults.Unit.TheVariants.{Bytes, Entries}
use Rattle.op_model.specs.declared.faults.EditFault.{EditFault}
use Rattle.op_model.specs.declared.faults.EditFault.TheVariants.{Reversed, Overlap, PastEnd, InsideChar, TextLimit, ClockEnd, Full, OutOfMemory}
use Rattle.op_model.specs.declared.faults.UndoFault.{UndoFault}
use Rattle.op_model.specs.declared.faults.UndoFault.TheVariants as undo
use Rattle.op_model.specs.declared.faults.OpFault.{OpFault}
use Rattle.op_model.specs.declared.faults.OpFault.TheVariants as taken
use Rattle.op_model.specs.declared.faults.PlaceFault.{PlaceFault}
use Rattle.op_model.specs.declared.faults.PlaceFault.TheVariants as place
use Rattle.op_model.specs.declared.faults.SinceFault.{SinceFault}
use Rattle.op_model.specs.declared.faults.SinceFault.TheVariants as since
use Rattle.op_model.specs.declared.anchor.TextEdit.{TextEdit}
use Rattle.session_lines.specs.Session.{operation_count, query_count}
use Rattle.session_lines.specs.declared.session.Session.{Session}
use Rattle.session_lines.specs.declared.report.GiveAnswer.{GiveAnswer}
use Rattle.session_lines.specs.declared.report.GiveAnswer.TheVariants as given
use Rattle.session_lines.specs.declared.report.AnchorAnswer.{AnchorAnswer}
use Rattle.session_lines.specs.declared.report.AnchorAnswer.TheVariants as anchor
use Rattle.session_lines.specs.declared.report.WhereAnswer.{WhereAnswer}
use Rattle.session_lines.specs.declared.report.WhereAnswer.TheVariants as position
use Rattle.session_lines.specs.declared.report.SinceAnswer.{SinceAnswer}
use Rattle.session_lines.specs.declared.report.SinceAnswer.TheVariants as edits
use Rattle.session_lines.specs.declared.report.FindAnswer.{FindAnswer}
use Rattle.session_lines.specs.declared.report.FindAnswer.TheVariants.{Starts, EmptyNeedle}
use Rattle.session_lines.specs.declared.report.PointAnswer.{PointAnswer}
use Rattle.session_lines.specs.declared.report.PointAnswer.TheVariants as point
use Rattle.session_lines.specs.declared.report.OffsetAnswer.{OffsetAnswer}
use Rattle.session_lines.specs.declared.report.OffsetAnswer.TheVariants as offset
use Rattle.session_lines.specs.declared.report.QueryAnswer.{QueryAnswer}
use Rattle.session_lines.specs.declared.report.QueryAnswer.TheVariants as query
use Rattle.session_lines.specs.declared.report.TextHead.{TextHead}
use Rattle.session_lines.specs.declared.report.TextHead.TheVariants as head
use Rattle.session_lines.specs.declared.report.Report.{Report}
use Rattle.session_lines.specs.declared.report.Report.TheVariants.{Made, EditRefused, UndoRefused, Unnamed, Settled, Give, Text, Anchor, Where, Mark, Since, Reopen, Query, Replica, Refused, Checked}

-- ---- lines

unfoldable pub made_line : ℕ → Lamport → List ℕ
made_line n t = decimal n ++ (codes ": " ++ (decimal t.value ++ (codes "." ++ (decimal t.replica ++ codes "\n"))))

-- what stands before the text in a line that ends with one
abbrev pub head_words : TextHead → List ℕ
head_words (head.CurrentText r bytes row column rows) =
    codes "text " ++ (decimal r ++ (codes ": " ++ (decimal bytes ++ (codes " bytes, end "
    ++ (decimal row ++ (codes ":" ++ (decimal column
    ++ (codes ", " ++ (decimal rows ++ codes " rows, ")))))))))
head_words (head.FinalText r) = codes "final " ++ (decimal r ++ codes ": ")

unfoldable pub text_line : TextHead → List ℕ → List ℕ
text_line h text = head_words h ++ (quoted text ++ codes "\n")

abbrev pub unit_words : LimitUnit → List ℕ
unit_words Bytes = codes "full bytes "
unit_words Entries = codes "full entries "

abbrev pub edit_fault_words : EditFault → List ℕ
edit_fault_words (Reversed i) = codes "reversed " ++ decimal i
edit_fault_words (Overlap i) = codes "overlap " ++ decimal i
edit_fault_words (PastEnd i len) = codes "pastend " ++ (decimal i ++ (codes " " ++ decimal len))
edit_fault_words (InsideChar i) = codes "insidechar " ++ decimal i
edit_fault_words (TextLimit n) = codes "textlimit " ++ decimal n
edit_fault_words ClockEnd = codes "clockend"
edit_fault_words (Full unit held adds) = unit_words unit ++ (decimal held ++ (codes " " ++ decimal adds))
edit_fault_words OutOfMemory = []

-- the faults of taken operations; one that an edit has too has the same words
abbrev pub op_fault_words : OpFault → List ℕ
op_fault_words taken.BadStamp = codes "badstamp"
op_fault_words taken.NoBase = codes "nobase"
op_fault_words (taken.TextLimit n) = edit_fault_words (TextLimit n)
op_fault_words (taken.Reversed i) = edit_fault_words (Reversed i)
op_fault_words (taken.Overlap i) = edit_fault_words (Overlap i)
op_fault_words (taken.CarriageReturn i) = codes "carriage " ++ decimal i
op_fault_words (taken.Conflict t) = codes "conflict " ++ stamp_text t
op_fault_words (taken.Forked kept) = codes "forked " ++ decimal kept
op_fault_words (taken.OpenVersion r) = codes "openversion " ++ decimal r
op_fault_words (taken.PastEnd i len) = edit_fault_words (PastEnd i len)
op_fault_words (taken.InsideChar i) = edit_fault_words (InsideChar i)
op_fault_words (taken.NoSuchEdit t) = codes "nosuchedit " ++ stamp_text t
op_fault_words (taken.Full unit held adds) = edit_fault_words (Full unit held adds)
op_fault_words taken.OutOfMemory = []

-- the faults of undos; one that an edit or a taken operation has too has the same words
abbrev pub undo_fault_words : UndoFault → List ℕ
undo_fault_words (undo.NoSuchEdit t) = op_fault_words (taken.NoSuchEdit t)
undo_fault_words (undo.Twice t) = codes "twice " ++ stamp_text t
undo_fault_words (undo.CountEnd t) = codes "countend " ++ stamp_text t
undo_fault_words undo.ClockEnd = edit_fault_words ClockEnd
undo_fault_words (undo.Full unit held adds) = edit_fault_words (Full unit held adds)
undo_fault_words undo.OutOfMemory = []

unfoldable pub refused_edit_line : ℕ → EditFault → List ℕ
refused_edit_line n e = decimal n ++ (codes ": " ++ (edit_fault_words e ++ codes "\n"))

unfoldable pub refused_undo_line : ℕ → UndoFault → List ℕ
refused_undo_line n e = decimal n ++ (codes ": " ++ (undo_fault_words e ++ codes "\n"))

unfoldable pub unnamed_line : ℕ → ℕ → List ℕ
unnamed_line n named = decimal n ++ (codes ": nothing " ++ (decimal named ++ codes "\n"))

unfoldable pub settled_line : ℕ → ℕ → List ℕ
settled_line r count = codes "settled " ++ (decimal r ++ (codes ": " ++ (decimal count ++ codes "\n")))

unfoldable pub reopen_line : ℕ → ℕ → List ℕ
reopen_line r count = codes "reopen " ++ (decimal r ++ (codes ": " ++ (decimal count ++ codes "\n")))

abbrev pub give_words : GiveAnswer → List ℕ
give_words (given.Applied count) = codes "applied " ++ decimal count
give_words (given.Waits r v) = codes "waits " ++ (decimal r ++ (codes " " ++ decimal v))
give_words given.Repeat = codes "repeat"
give_words given.Nothing = codes "nothing"
give_words (given.Refused e) = op_fault_words e

unfoldable pub give_line : ℕ → ℕ → GiveAnswer → List ℕ
give_line n r answer =
    codes "give " ++ (decimal n ++ (codes " to " ++ (decimal r ++ (codes ": "
    ++ (give_words answer ++ codes "\n")))))

-- ---- anchors and marks, by their names, which are written as JSON strings

abbrev pub place_fault_words : PlaceFault → List ℕ
place_fault_words (place.PastEnd len) = codes "pastend " ++ decimal len
place_fault_words place.InsideChar = codes "insidechar"

abbrev pub anchor_words : AnchorAnswer → List ℕ
anchor_words anchor.Set = codes "set"
anchor_words (anchor.Fault e) = place_fault_words e

unfoldable pub anchor_line : List ℕ → AnchorAnswer → List ℕ
anchor_line name answer = codes "anchor " ++ (quoted name ++ (codes ": " ++ (anchor_words answer ++ codes "\n")))

abbrev pub where_words : WhereAnswer → List ℕ
where_words (position.Offset o) = decimal o
where_words position.Unknown = codes "unknown"
where_words position.Nothing = codes "nothing"

unfoldable pub where_line : List ℕ → ℕ → WhereAnswer → List ℕ
where_line name r answer =
    codes "where " ++ (quoted name ++ (codes " at " ++ (decimal r ++ (codes ": "
    ++ (where_words answer ++ codes "\n")))))

unfoldable pub mark_line : List ℕ → List ℕ
mark_line name = codes "mark " ++ (quoted name ++ codes ": set\n")

-- the old range and the new one
abbrev pub edit_words : TextEdit → List ℕ
edit_words e =
    decimal e.old.0 ++ (codes ".." ++ (decimal e.old.1
    ++ (codes " -> " ++ (decimal e.new.0 ++ (codes ".." ++ decimal e.new.1)))))

-- the edits with a comma and a space between them
abbrev pub edits_words : List TextEdit → List ℕ
edits_words [] = codes "none"
edits_words (e ∷ es) = join_by edit_words (codes ", ") (e ∷ es)

abbrev pub since_fault_words : SinceFault → List ℕ
since_fault_words (since.Unseen r) = codes "unseen " ++ decimal r
since_fault_words (since.OpenVersion r) = codes "openversion " ++ decimal r
since_fault_words since.OutOfMemory = []

abbrev pub since_words : SinceAnswer → List ℕ
since_words (edits.Edits es) = edits_words es
since_words (edits.Fault e) = since_fault_words e

unfoldable pub since_line : List ℕ → ℕ → SinceAnswer → List ℕ
since_line name r answer =
    codes "since " ++ (quoted name ++ (codes " at " ++ (decimal r ++ (codes ": "
    ++ (since_words answer ++ codes "\n")))))

-- ---- answers to queries

-- the places with one space between them
abbrev pub starts_words : List ℕ → List ℕ
starts_words [] = codes "none"
starts_words (n ∷ ns) = join_by decimal (codes " ") (n ∷ ns)

abbrev pub find_words : FindAnswer → List ℕ
find_words (Starts ns) = starts_words ns
find_words EmptyNeedle = codes "empty needle"

-- a row and a column
abbrev pub place_words : ℕ → ℕ → List ℕ
place_words row column = decimal row ++ (codes ":" ++ decimal column)

-- none, and where a position is clipped to
abbrev pub clips_words : List ℕ → List ℕ → List ℕ
clips_words left right = codes "none " ++ (left ++ (codes " " ++ right))

-- the point, the UTF-16 offset and the UTF-16 point
abbrev pub point_words : PointAnswer → List ℕ
point_words (point.Point p u q) =
    place_words p.row p.column
    ++ (codes " " ++ (decimal u.0 ++ (codes " " ++ place_words q.row q.column)))
point_words (point.Clips left right) = clips_words (decimal left) (decimal right)

abbrev pub offset_words : OffsetAnswer → List ℕ
offset_words (offset.Offset o) = decimal o
offset_words (offset.Clips left right) =
    clips_words (place_words left.row left.column) (place_words right.row right.column)

abbrev pub query_word : QueryAnswer → List ℕ
query_word (query.Find a) = codes "find"
query_word (query.Point a) = codes "point"
query_word (query.Offset a) = codes "offset"

abbrev pub query_words : QueryAnswer → List ℕ
query_words (query.Find a) = find_words a
query_words (query.Point a) = point_words a
query_words (query.Offset a) = offset_words a

-- query q, which was answered on n operations
unfoldable pub query_line : ℕ → ℕ → QueryAnswer → List ℕ
query_line q n a =
    query_word a ++ (codes " " ++ (decimal q ++ (codes " at " ++ (decimal n ++ (codes ": "
    ++ (query_words a ++ codes "\n"))))))

-- ---- replicas at the end

abbrev pub counts_words : ℕ → ℕ → ℕ → ℕ → List ℕ
counts_words r bytes rows applied =
    codes "replica " ++ (decimal r ++ (codes ": " ++ (decimal bytes ++ (codes " bytes, "
    ++ (decimal rows ++ (codes " rows, "
    ++ (decimal applied ++ codes " applied, ")))))))

abbrev pub waits_words : ℕ → ℕ → List ℕ
waits_words waiting refused = decimal waiting ++ (codes " waiting, " ++ (decimal refused ++ codes " refused\n"))

unfoldable pub replica_line : ℕ → ℕ → ℕ → ℕ → ℕ → ℕ → List ℕ
replica_line r bytes rows applied waiting refused = counts_words r bytes rows applied ++ waits_words waiting refused

unfoldable pub refused_op_line : ℕ → Lamport → OpFault → List ℕ
refused_op_line r t e =
    codes "refused " ++ (decimal r ++ (codes ": " ++ (stamp_text t ++ (codes " "
    ++ (op_fault_words e ++ codes "\n")))))

unfoldable pub checked_line : ℕ → ℕ → ℕ → ℕ → List ℕ
checked_line lines replicas operations queries =
    codes "session ok: " ++ (decimal lines ++ (codes " lines, "
    ++ (decimal replicas ++ (codes " replicas, "
    ++ (decimal operations ++ (codes " operations, "
    ++ (decimal queries ++ codes " queries\n")))))))

-- ---- a line of each kind

unfoldable pub line_text : Report → List ℕ
line_text (Made n t) = made_line n t
line_text (EditRefused n e) = refused_edit_line n e
line_text (UndoRefused n e) = refused_undo_line n e
line_text (Unnamed n named) = unnamed_line n named
line_text (Settled r count) = settled_line r count
line_text (Give n r answer) = give_line n r answer
line_text (Text h text) = text_line h text
line_text (Anchor name answer) = anchor_line name answer
line_text (Where name r answer) = where_line name r answer
line_text (Mark name) = mark_line name
line_text (Since name r answer) = since_line name r answer
line_text (Reopen r count) = reopen_line r count
line_text (Query q n answer) = query_line q n answer
line_text (Replica r bytes rows applied waiting refused) = replica_line r bytes rows applied waiting refused
line_text (Refused r t e) = refused_op_line r t e
line_text (Checked lines replicas operations queries) = checked_line lines replicas operations queries

-- ---- a text in parts

-- P holds of the text that the parts are, one after the other, which calls from s give
abbrev pub OnText : {S : Type 0} → (S → Option (Bor (List ℕ)) → S → Type 0) → S → (List ℕ → Type 0) → Type 0
OnText steps s P = (parts : List (Bor (List ℕ))) × Drains steps s parts × P (concat (map (λ part. part.now) parts))

-- ---- which lines have strings

-- whether a JSON string stands in the line
abbrev pub has_string : Report → Bool
has_string (Text h text) = true
has_string (Anchor name answer) = true
has_string (Where name r answer) = true
has_string (Mark name) = true
has_string (Since name r answer) = true
has_string _ = false

-- whether it is a line at the end of a report with no JSON string in it
abbrev pub is_end : Report → Bool
is_end (Replica r bytes rows applied waiting refused) = true
is_end (Refused r t e) = true
is_end (Checked lines replicas operations queries) = true
is_end _ = false

-- the text of a whole report
unfoldable pub report_text : List Report → List ℕ
report_text rs = flat_map line_text rs

-- ---- what is counted of a session

-- all its lines, the header too; ids; operation lines; queries
abbrev pub session_counts : Session → Report
session_counts s = Checked (1 + length s.lines) (length s.replicas) (operation_count s.lines) (query_count s.lines)
