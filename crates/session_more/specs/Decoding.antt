-- Which session a text is, or its first bad line and the first word that applies to it.
use Rattle.std.specs.Prelude.{◌==◌, ℕ, ◌+◌, List, [], ◌∷◌, ◌++◌, length, map, nat_lt, not, Bool, Option, None, Some, Result, Ok, Err, if◌then◌else◌}
use Rattle.op_model.specs.Choice.{first_of, when}
use Rattle.serde_json.specs.Data.{Data}
use Rattle.session_lines.specs.Before.{BeforeState, header_read, line_read}
use Rattle.session_lines.specs.Cut.{lines_of}
use Rattle.session_lines.specs.Json.{value_of}
use Rattle.session_lines.specs.Session.{lines_limit, then_from, unless}
use Rattle.session_lines.specs.declared.fault.DecodeFault.{DecodeFault}
use Rattle.session_lines.specs.declared.fault.DecodeFault.TheVariants.{Bad, Lines}
use Rattle.session_lines.specs.declared.fault.Word.{Word}
use Rattle.session_lines.specs.declared.fault.Word.TheVariants as word
use Rattle.session_lines.specs.declared.session.Session.{Session}
use Rattle.session_lines.specs.declared.session.SessionLine.{SessionLine}
use Rattle.session_more.specs.Forms.{further_of_value}
use Rattle.session_more.specs.Lines.{is_known, is_named, more_taken_in}
use Rattle.session_more.specs.State.{MoreState, first_state}
use Rattle.session_more.specs.declared.session.MoreLine.{MoreLine}
use Rattle.session_more.specs.declared.session.MoreLine.TheVariants.{Plain}
use Rattle.session_more.specs.declared.session.MoreSession.{MoreSession}

-- ---- a line

-- what is wrong with a line that has one of the further forms
abbrev pub further_word : MoreState → MoreLine → Option Word
further_word s line = first_of (
    when (not (is_known s.plain.replicas line)) word.Replica
    ∷ when (not (is_named s line)) word.Name
    ∷ [])

abbrev pub form_after : MoreState → Option MoreLine → Result MoreLine Word
form_after s None = Err word.Shape
form_after s (Some line) = unless line (further_word s line)

abbrev pub value_after : MoreState → Option Data → Result MoreLine Word
value_after s None = Err word.Json
value_after s (Some d) = form_after s (further_of_value d)

-- the line of one of the further forms that a text is, or the first word that applies to it: version 1 has none of them
unfoldable pub further_read : MoreState → List ℕ → Result MoreLine Word
further_read s line = if s.plain.version == 2 then value_after s (value_of line) else Err word.Shape

-- a line of `session_lines`, where it is one, and else one of the further forms, where it has no form of `session_lines`
abbrev pub or_further : MoreState → List ℕ → Result SessionLine Word → Result MoreLine Word
or_further s line (Ok l) = Ok (Plain l)
or_further s line (Err word.Shape) = further_read s line
or_further s line (Err w) = Err w

-- the line that a text is, or the first word that applies to it
unfoldable pub more_line_read : MoreState → List ℕ → Result MoreLine Word
more_line_read s line = or_further s line (line_read s.plain line)

-- ---- all lines

-- the lines after the header, those `before` being read
abbrev pub more_lines_read : MoreState → List MoreLine → List (List ℕ) → Result (List MoreLine) DecodeFault
more_lines_read s before [] = Ok before
more_lines_read s before (l ∷ ls) =
    then_from (2 + length before) (more_line_read s l) (λ x. more_lines_read (more_taken_in x s) (before ++ x ∷ []) ls)

abbrev pub with_header : List ℕ × BeforeState → Result (List MoreLine) DecodeFault → Result MoreSession DecodeFault
with_header p (Err e) = Err e
with_header p (Ok ls) = Ok (record { version = p.1.version; base = p.0; replicas = p.1.replicas; lines = ls })

abbrev pub more_session_of : Bool → List (List ℕ) → Result MoreSession DecodeFault
more_session_of migrate [] = Err (Bad 1 word.Header)
more_session_of migrate (l ∷ ls) =
    then_from 1 (header_read migrate l) (λ p. with_header p (more_lines_read (first_state p.1) [] ls))

-- the session of a text, which may be read to be migrated, or why it has none: lines are counted before any is read
unfoldable pub more_session_of_text : Bool → List ℕ → Result MoreSession DecodeFault
more_session_of_text migrate input =
    if nat_lt lines_limit (length (lines_of input))
    then Err (Lines (length (lines_of input)))
    else more_session_of migrate (lines_of input)

-- ---- sessions of the lines of `session_lines` alone

-- the session with these lines
abbrev pub plainly : Session → MoreSession
plainly s = record { version = s.version; base = s.base; replicas = s.replicas; lines = map Plain s.lines }

-- the header of the session, with no line after it
abbrev pub headed : MoreSession → Session
headed s = record { version = s.version; base = s.base; replicas = s.replicas; lines = [] }
