-- What a line of a session is checked against, for the lines before it, and which line it is then.
use Rattle.std.specs.Prelude.{◌==◌, ℕ, ◌+◌, ◌-◌, ◌^◌, min, List, [], ◌∷◌, ◌++◌, length, not, ◌&&◌, Bool, Option, Some, None, Result, Ok, Err, if◌then◌else◌, map}
use Rattle.std.specs.BTreeSet.{BTreeSet, insert_key}
use Rattle.std.specs.Cmp.Lexicographic.{slice_cmp}
use Rattle.std.specs.List.{list_any}
use Rattle.std.specs.Ordering.{nat_cmp}
use Rattle.std.specs.Str.{bytes_eq}
use Rattle.std.specs.Prelude.{String}
use Rattle.std.specs.String.{string_bytes}
use Rattle.op_model.specs.Choice.{first_of, when}
use Rattle.serde_json.specs.Data.{Data}
use Rattle.session_lines.specs.Forms.{line_of_value}
use Rattle.session_lines.specs.Json.{value_of}
use Rattle.session_lines.specs.Session.{anchor_name, brings_return, header_of, is_known, is_named_by, is_numbered, is_operation, mark_name, then_from, unless}
use Rattle.session_lines.specs.declared.fault.DecodeFault.{DecodeFault}
use Rattle.session_lines.specs.declared.fault.DecodeFault.TheVariants.{Bad}
use Rattle.session_lines.specs.declared.fault.Word.{Word}
use Rattle.session_lines.specs.declared.fault.Word.TheVariants as word
use Rattle.session_lines.specs.declared.header.Header.{Header}
use Rattle.session_lines.specs.declared.session.Session.{Session}
use Rattle.session_lines.specs.declared.session.SessionLine.{SessionLine}

-- the header's version and ids, whether the session is read to be migrated, how many operation numbers there are, and the names
-- under which anchors and versions are kept, each list of names ascending and without repeats
pub record BeforeState : Type 0 where
  pub version : ℕ
  pub migrate : Bool
  pub replicas : List ℕ
  pub operations : ℕ
  pub anchors : List (List ℕ)
  pub marks : List (List ℕ)

-- ---- the first line

-- the base of a header, and what the line after it is checked against
abbrev pub after_header : Bool → Header → List ℕ × BeforeState
after_header migrate h =
    (h.base, record { version = h.version; migrate = migrate; replicas = h.replicas; operations = 0; anchors = []; marks = [] })

abbrev pub then_header : Bool → Result Header Word → Result (List ℕ × BeforeState) Word
then_header migrate (Err w) = Err w
then_header migrate (Ok h) = Ok (after_header migrate h)

-- the base of the header that a first line is, and what the line after it is checked against
unfoldable pub header_read : Bool → List ℕ → Result (List ℕ × BeforeState) Word
header_read migrate line = then_header migrate (header_of migrate line)

-- a session with the base and the header, and no line after it
abbrev pub without_lines : List ℕ × BeforeState → Session
without_lines p = record { version = p.1.version; base = p.0; replicas = p.1.replicas; lines = [] }

-- ---- names

-- the names of a set, ascending
abbrev pub names_of : {Y : Type 0} → BTreeSet (String Y) → List (List ℕ)
names_of s = map string_bytes s.keys

-- the name is one of the names
abbrev pub has_name : List (List ℕ) → List ℕ → Bool
has_name names name = list_any (bytes_eq name) names

-- the names and one more, at its place in the order of bytes
abbrev pub name_added : List (List ℕ) → List ℕ → List (List ℕ)
name_added names name = insert_key (slice_cmp nat_cmp) names name

-- the names and one more, where there is one
abbrev pub with_name : Option (List ℕ) → List (List ℕ) → List (List ℕ)
with_name None names = names
with_name (Some name) names = name_added names name

-- ---- numbers of operation lines

-- the greatest number that a line can name
abbrev pub last_number : ℕ
last_number = 2 ^ 64 - 1

-- a count of operation numbers with n more, up to the greatest that a line can name
abbrev pub count_raised : ℕ → ℕ → ℕ
count_raised n count = min (count + n) last_number

-- the same with n more operation numbers
abbrev pub operations_raised : ℕ → BeforeState → BeforeState
operations_raised n b = record b { operations = count_raised n b.operations }

-- ---- a later line

-- what the line after this one is checked against
abbrev pub taken_in : SessionLine → BeforeState → BeforeState
taken_in line b = record b {
  operations = if is_operation line then count_raised 1 b.operations else b.operations;
  anchors = with_name (anchor_name line) b.anchors;
  marks = with_name (mark_name line) b.marks;
}

-- no text with a CR may be brought into buffers
abbrev pub returns_barred : BeforeState → Bool
returns_barred b = b.migrate && (b.version == 1)

-- what is wrong with a line that has the form of one
abbrev pub word_after : BeforeState → SessionLine → Option Word
word_after b line = first_of (
    when (not (is_known b.replicas line)) word.Replica
    ∷ when (not (is_numbered b.operations line)) word.Number
    ∷ when (not (is_named_by (has_name b.anchors) (has_name b.marks) line)) word.Name
    ∷ when (returns_barred b && brings_return line) word.Cr
    ∷ [])

abbrev pub form_after : BeforeState → Option SessionLine → Result SessionLine Word
form_after b None = Err word.Shape
form_after b (Some line) = unless line (word_after b line)

abbrev pub value_after : BeforeState → Option Data → Result SessionLine Word
value_after b None = Err word.Json
value_after b (Some d) = form_after b (line_of_value b.version d)

-- the line that a text is, or the first word that applies to it
unfoldable pub line_read : BeforeState → List ℕ → Result SessionLine Word
line_read b line = value_after b (value_of line)

-- ---- all lines, for private clauses

-- the lines after the header, those `before` being read
abbrev pub lines_read : BeforeState → List SessionLine → List (List ℕ) → Result (List SessionLine) DecodeFault
lines_read b before [] = Ok before
lines_read b before (l ∷ ls) =
    then_from (2 + length before) (line_read b l) (λ x. lines_read (taken_in x b) (before ++ x ∷ []) ls)

abbrev pub with_before : List ℕ → BeforeState → Result (List SessionLine) DecodeFault → Result Session DecodeFault
with_before base b (Err e) = Err e
with_before base b (Ok ls) = Ok (record { version = b.version; base = base; replicas = b.replicas; lines = ls })

-- the session that lines are, each read after those before it
abbrev pub whole_read : Bool → List (List ℕ) → Result Session DecodeFault
whole_read migrate [] = Err (Bad 1 word.Header)
whole_read migrate (l ∷ ls) = then_from 1 (header_read migrate l) (λ p. with_before p.0 p.1 (lines_read p.1 [] ls))
