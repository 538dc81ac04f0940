-- What snapshots are asked.
use Rattle.std.specs.Prelude.{ℕ, ◌-◌, ◌&&◌, not, List, [], ◌∷◌, length, map, nat_lt, ◌==◌, if◌then◌else◌, slice_range, Option, None, Some}
use Rattle.std.specs.Str.{is_utf8}
use Rattle.lamport_clock.specs.Versions.{Entries}
use Rattle.op_model.specs.declared.faults.SinceFault.{SinceFault}
use Rattle.op_model.specs.Since.{since, since_fault, text_at}
use Rattle.snapshot_search.specs.Starts.{starts}
use Rattle.op_model.specs.Choice.{first_of, when}
use Rattle.op_model.specs.Edits.{is_boundary}
use Rattle.op_model.specs.Shown.{text}
use Rattle.op_model.specs.declared.operation.Operation.{Operation}
use Rattle.c_values.specs.declared.answer.Answer.{Answer}
use Rattle.c_values.specs.declared.answer.Code.TheVariants.{InsideChar, NotUtf8, OutOfRange, PastEnd}
use Rattle.c_values.specs.Answers.{answer, bare, since_refusal}
use Rattle.c_values.specs.declared.text_changes.TextChange.{TextChange}
use Rattle.c_values.specs.Room.{room_answer}
use Rattle.c_values.specs.TextChanges.{text_change}

-- why a text has no part between two offsets
abbrev pub range_refusal : List ℕ → ℕ → ℕ → Option Answer
range_refusal t s e = first_of (
    when (nat_lt e s) (bare OutOfRange)
    ∷ when (nat_lt (length t) e) (answer PastEnd 0 (length t) 0)
    ∷ when (not (is_boundary t s && is_boundary t e)) (bare InsideChar)
    ∷ [])

-- the refusal, or the answer where n are to be written
abbrev pub room_unless : Option Answer → ℕ → ℕ → Answer
room_unless None n room = room_answer n room
room_unless (Some a) n room = a

abbrev pub text_answer : List ℕ → ℕ → ℕ → ℕ → Answer
text_answer t s e room = room_unless (range_refusal t s e) (e - s) room

-- the part of the text of a snapshot that a handle holds
abbrev pub text_part : Option (List Operation) → ℕ → ℕ → List ℕ
text_part None s e = []
text_part (Some h) s e = slice_range (text h) s e

-- ---- the past, and searches

abbrev pub since_unless : Option SinceFault → ℕ → ℕ → Answer
since_unless None n room = room_answer n room
since_unless (Some e) n room = since_refusal e

abbrev pub text_at_answer : List Operation → Entries → ℕ → Answer
text_at_answer h v room = since_unless (since_fault h v) (length (text_at h v)) room

-- the text that a version saw, of a snapshot that a handle holds
abbrev pub text_at_inside : Option (List Operation) → Entries → List ℕ
text_at_inside None v = []
text_at_inside (Some h) v = text_at h v

-- the answer where the edits since a version are to be written
abbrev pub edits_answer : List Operation → Entries → ℕ → Answer
edits_answer h v room = since_unless (since_fault h v) (length (since h v)) room

-- those edits, of a snapshot that a handle holds
abbrev pub edits_inside : Option (List Operation) → Entries → List TextChange
edits_inside None v = []
edits_inside (Some h) v = map text_change (since h v)

abbrev pub find_answer : List ℕ → List ℕ → ℕ → Answer
find_answer t needle room =
    if length needle == 0 then bare OutOfRange
    else if is_utf8 needle then room_answer (length (starts t needle)) room else bare NotUtf8

-- where a text stands in that of a snapshot that a handle holds
abbrev pub starts_inside : Option (List Operation) → List ℕ → List ℕ
starts_inside None needle = []
starts_inside (Some h) needle = starts (text h) needle
