-- Which session a text is, or its first bad line and the first word that applies to it.
use Rattle.std.specs.Prelude.{◌≡◌, ◌⊎◌, ◌==◌, ℕ, ◌+◌, ◌≤◌, List, [], ◌∷◌, ◌++◌, length, not, ◌&&◌, nat_lt, nat_le, Bool, true, false, Option, Some, None, Result, Ok, Err, if◌then◌else◌}
use Rattle.std.specs.List.{All, count_by, list_all, list_any}
use Rattle.std.specs.Str.{bytes_eq}
use Rattle.op_model.specs.Domains.{IsReplica}
use Rattle.op_model.specs.declared.endings.Endings.{Endings}
use Rattle.op_model.specs.declared.endings.Endings.TheVariants.{AsIs, Lf}
use Rattle.op_model.specs.Choice.{first_of, when}
use Rattle.op_model.specs.Rules.{has_return, is_return}
use Rattle.serde_json.specs.Data.{Data}
use Rattle.session_lines.specs.Json.{value_of}
use Rattle.session_lines.specs.Cut.{lines_of}
use Rattle.session_lines.specs.Forms.{line_of_value}
use Rattle.session_lines.specs.Parts.{is_among}
use Rattle.session_lines.specs.Heading.{header_of_value, are_replicas}
use Rattle.session_lines.specs.declared.header.Header.{Header}
use Rattle.session_lines.specs.declared.session.SessionLine.{SessionLine}
use Rattle.session_lines.specs.declared.session.SessionLine.TheVariants.{Edit, Undo, Op, Uop, Give, Text, Anchor, Where, Mark, Since, Find, Point, Offset, Reopen}
use Rattle.session_lines.specs.declared.session.Session.{Session}
use Rattle.session_lines.specs.declared.fault.Word.{Word}
use Rattle.session_lines.specs.declared.fault.Word.TheVariants as word
use Rattle.session_lines.specs.declared.fault.DecodeFault.{DecodeFault}
use Rattle.session_lines.specs.declared.fault.DecodeFault.TheVariants.{Lines, Bad}

-- ---- the header

-- x, unless there is something against it
abbrev pub unless : {A E : Type 0} → A → Option E → Result A E
unless x None = Ok x
unless x (Some e) = Err e

-- a session with this header may bring no text with a CR into its buffers: it is read to be migrated from version 1, whose buffers
-- keep a CR, to version 2, whose buffers do not
abbrev pub bars_return : Bool → Header → Bool
bars_return migrate h = migrate && (h.version == 1)

-- the header that a value is
abbrev pub value_or_word : Bool → Option Header → Result Header Word
value_or_word migrate None = Err word.Header
value_or_word migrate (Some h) = unless h (when (bars_return migrate h && list_any is_return h.base) word.Cr)

-- the header that a first line is
abbrev pub header_or_word : Bool → Option Data → Result Header Word
header_or_word migrate None = Err word.Json
header_or_word migrate (Some d) = value_or_word migrate (header_of_value d)

unfoldable pub header_of : Bool → List ℕ → Result Header Word
header_of migrate line = header_or_word migrate (value_of line)

-- ---- operation lines, which are numbered from 1 in their order, whatever comes of them

abbrev pub is_operation : SessionLine → Bool
is_operation (Edit r ps) = true
is_operation (Undo r ns) = true
is_operation (Op e) = true
is_operation (Uop u) = true
is_operation (Give r n) = false
is_operation (Text r) = false
is_operation (Anchor r n o b) = false
is_operation (Where r n) = false
is_operation (Mark r n) = false
is_operation (Since r n) = false
is_operation (Find r t) = false
is_operation (Point r o) = false
is_operation (Offset r k c) = false
is_operation (Reopen r) = false

-- how many of the lines are operation lines
abbrev pub operation_count : List SessionLine → ℕ
operation_count ls = count_by is_operation ls

-- ---- queries, which are numbered from 1 in their order, apart from operation lines

abbrev pub is_query : SessionLine → Bool
is_query (Edit r ps) = false
is_query (Undo r ns) = false
is_query (Op e) = false
is_query (Uop u) = false
is_query (Give r n) = false
is_query (Text r) = false
is_query (Anchor r n o b) = false
is_query (Where r n) = false
is_query (Mark r n) = false
is_query (Since r n) = false
is_query (Find r t) = true
is_query (Point r o) = true
is_query (Offset r k c) = true
is_query (Reopen r) = false

-- how many of the lines are queries
abbrev pub query_count : List SessionLine → ℕ
query_count ls = count_by is_query ls

-- ---- a line after others

-- the replica that acts in the line, if one does, is in the header
abbrev pub is_known : List ℕ → SessionLine → Bool
is_known ids (Edit r ps) = is_among ids r
is_known ids (Undo r ns) = is_among ids r
is_known ids (Op e) = true
is_known ids (Uop u) = true
is_known ids (Give r n) = is_among ids r
is_known ids (Text r) = is_among ids r
is_known ids (Anchor r n o b) = is_among ids r
is_known ids (Where r n) = is_among ids r
is_known ids (Mark r n) = is_among ids r
is_known ids (Since r n) = is_among ids r
is_known ids (Find r t) = is_among ids r
is_known ids (Point r o) = is_among ids r
is_known ids (Offset r k c) = is_among ids r
is_known ids (Reopen r) = is_among ids r

-- n is the number of one of the `count` operation lines before
abbrev pub is_number_of : ℕ → ℕ → Bool
is_number_of count n = nat_le 1 n && nat_le n count

-- each operation line that the line names is one of the `count` before it
abbrev pub is_numbered : ℕ → SessionLine → Bool
is_numbered count (Edit r ps) = true
is_numbered count (Undo r ns) = list_all (is_number_of count) ns
is_numbered count (Op e) = true
is_numbered count (Uop u) = true
is_numbered count (Give r n) = is_number_of count n
is_numbered count (Text r) = true
is_numbered count (Anchor r n o b) = true
is_numbered count (Where r n) = true
is_numbered count (Mark r n) = true
is_numbered count (Since r n) = true
is_numbered count (Find r t) = true
is_numbered count (Point r o) = true
is_numbered count (Offset r k c) = true
is_numbered count (Reopen r) = true

-- the name under which the line keeps an anchor, if it does
abbrev pub anchor_name : SessionLine → Option (List ℕ)
anchor_name (Edit r ps) = None
anchor_name (Undo r ns) = None
anchor_name (Op e) = None
anchor_name (Uop u) = None
anchor_name (Give r n) = None
anchor_name (Text r) = None
anchor_name (Anchor r n o b) = Some n
anchor_name (Where r n) = None
anchor_name (Mark r n) = None
anchor_name (Since r n) = None
anchor_name (Find r t) = None
anchor_name (Point r o) = None
anchor_name (Offset r k c) = None
anchor_name (Reopen r) = None

-- the name under which the line keeps a version, if it does
abbrev pub mark_name : SessionLine → Option (List ℕ)
mark_name (Edit r ps) = None
mark_name (Undo r ns) = None
mark_name (Op e) = None
mark_name (Uop u) = None
mark_name (Give r n) = None
mark_name (Text r) = None
mark_name (Anchor r n o b) = None
mark_name (Where r n) = None
mark_name (Mark r n) = Some n
mark_name (Since r n) = None
mark_name (Find r t) = None
mark_name (Point r o) = None
mark_name (Offset r k c) = None
mark_name (Reopen r) = None

-- the name is this one, where there is one
abbrev pub is_name : List ℕ → Option (List ℕ) → Bool
is_name name None = false
is_name name (Some n) = bytes_eq n name

-- one of the lines keeps an anchor under the name
abbrev pub has_anchor : List SessionLine → List ℕ → Bool
has_anchor ls name = list_any (λ l. is_name name (anchor_name l)) ls

-- one of the lines keeps a version under the name
abbrev pub has_mark : List SessionLine → List ℕ → Bool
has_mark ls name = list_any (λ l. is_name name (mark_name l)) ls

-- what the line asks for by a name, if it does, is kept under it: an anchor under the names of the first test, a version under those
-- of the second
abbrev pub is_named_by : (List ℕ → Bool) → (List ℕ → Bool) → SessionLine → Bool
is_named_by anchors marks (Edit r ps) = true
is_named_by anchors marks (Undo r ns) = true
is_named_by anchors marks (Op e) = true
is_named_by anchors marks (Uop u) = true
is_named_by anchors marks (Give r n) = true
is_named_by anchors marks (Text r) = true
is_named_by anchors marks (Anchor r n o b) = true
is_named_by anchors marks (Where r n) = anchors n
is_named_by anchors marks (Mark r n) = true
is_named_by anchors marks (Since r n) = marks n
is_named_by anchors marks (Find r t) = true
is_named_by anchors marks (Point r o) = true
is_named_by anchors marks (Offset r k c) = true
is_named_by anchors marks (Reopen r) = true

-- under the name that the line asks for, if it does, one of the lines before keeps what it asks for
abbrev pub is_named : List SessionLine → SessionLine → Bool
is_named before line = is_named_by (has_anchor before) (has_mark before) line

-- a text that the line brings into buffers has a CR
abbrev pub brings_return : SessionLine → Bool
brings_return (Edit r ps) = list_any has_return ps
brings_return (Undo r ns) = false
brings_return (Op e) = list_any has_return e.pieces
brings_return (Uop u) = false
brings_return (Give r n) = false
brings_return (Text r) = false
brings_return (Anchor r n o b) = false
brings_return (Where r n) = false
brings_return (Mark r n) = false
brings_return (Since r n) = false
brings_return (Find r t) = false
brings_return (Point r o) = false
brings_return (Offset r k c) = false
brings_return (Reopen r) = false

-- what is wrong with a line that has the form of one, after the lines before
abbrev pub word_of : Bool → Header → List SessionLine → SessionLine → Option Word
word_of migrate h before line = first_of (
    when (not (is_known h.replicas line)) word.Replica
    ∷ when (not (is_numbered (operation_count before) line)) word.Number
    ∷ when (not (is_named before line)) word.Name
    ∷ when (bars_return migrate h && brings_return line) word.Cr
    ∷ [])

abbrev pub form_or_word : Bool → Header → List SessionLine → Option SessionLine → Result SessionLine Word
form_or_word migrate h before None = Err word.Shape
form_or_word migrate h before (Some line) = unless line (word_of migrate h before line)

abbrev pub line_or_word : Bool → Header → List SessionLine → Option Data → Result SessionLine Word
line_or_word migrate h before None = Err word.Json
line_or_word migrate h before (Some d) = form_or_word migrate h before (line_of_value h.version d)

-- the line of a session with this header that a later line is, after the lines before
unfoldable pub line_of : Bool → Header → List SessionLine → List ℕ → Result SessionLine Word
line_of migrate h before line = line_or_word migrate h before (value_of line)

-- ---- all lines

-- what follows from the line with number n: it is bad, or the lines go on after it
abbrev pub then_from : {A B : Type 0} → ℕ → Result A Word → (A → Result B DecodeFault) → Result B DecodeFault
then_from n (Err w) next = Err (Bad n w)
then_from n (Ok x) next = next x

-- the lines after the header, those `before` being read
abbrev pub rest_of : Bool → Header → List SessionLine → List (List ℕ) → Result (List SessionLine) DecodeFault
rest_of migrate h before [] = Ok before
rest_of migrate h before (l ∷ ls) =
    then_from (2 + length before) (line_of migrate h before l) (λ x. rest_of migrate h (before ++ x ∷ []) ls)

abbrev pub with_header : Header → Result (List SessionLine) DecodeFault → Result Session DecodeFault
with_header h (Err e) = Err e
with_header h (Ok ls) = Ok (record { version = h.version; base = h.base; replicas = h.replicas; lines = ls })

abbrev pub session_of : Bool → List (List ℕ) → Result Session DecodeFault
session_of migrate [] = Err (Bad 1 word.Header)
session_of migrate (l ∷ ls) = then_from 1 (header_of migrate l) (λ h. with_header h (rest_of migrate h [] ls))

-- what the buffers of a session do with line endings, by its version
abbrev pub endings_of : ℕ → Endings
endings_of v = if v == 2 then Lf else AsIs

-- the most lines of a session
abbrev pub lines_limit : ℕ
lines_limit = 1048576

-- the session of a text, which may be read to be migrated, or why it has none: lines are counted before any is read
unfoldable pub session_of_text : Bool → List ℕ → Result Session DecodeFault
session_of_text migrate input =
    if nat_lt lines_limit (length (lines_of input))
    then Err (Lines (length (lines_of input)))
    else session_of migrate (lines_of input)

-- ---- what every session is like that was read from that many bytes

pub record IsSession (bytes : ℕ) (s : Session) : Type 0 where
  pub version : (s.version ≡ 1) ⊎ (s.version ≡ 2)
  pub base : length s.base ≤ bytes
  pub replicas : are_replicas s.replicas ≡ true
  pub ids : All IsReplica s.replicas
