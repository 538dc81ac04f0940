-- The lines of a session.
use Rattle.std.specs.Prelude.{◌≡◌, ℕ, min, List, length, map, sum, Bool, false, true, Option, None, Some, if◌then◌else◌}
use Rattle.std.specs.List.{count_by}
use Rattle.session_lines.specs.Before.{BeforeState, has_name, last_number, operations_raised, taken_in, with_name}
use Rattle.session_lines.specs.Parts.{is_among}
use Rattle.session_lines.specs.Session as old
use Rattle.session_more.specs.State.{MoreState}
use Rattle.session_more.specs.declared.session.MoreLine.{MoreLine}
use Rattle.session_more.specs.declared.session.MoreLine.TheVariants.{Plain, Select, Share, Selected, Fold, Unfold, Folded, Display, Excerpt, Multi, Medit}

-- ---- operation lines, which are numbered from 1 in their order, whatever comes of them

abbrev pub is_operation : MoreLine → Bool
is_operation (Plain l) = old.is_operation l
is_operation (Medit n ps) = true
is_operation _ = false

-- how many numbers the line takes in a session with this number of replicas
abbrev pub number_count : ℕ → MoreLine → ℕ
number_count replicas (Plain l) = if old.is_operation l then 1 else 0
number_count replicas (Medit n ps) = replicas
number_count replicas _ = 0

-- how many numbers the lines take in such a session, up to the greatest that a line can name
abbrev pub operation_count : ℕ → List MoreLine → ℕ
operation_count replicas ls = min (sum (map (number_count replicas) ls)) last_number

-- ---- queries, which are numbered from 1 in their order, apart from operation lines

abbrev pub is_query : MoreLine → Bool
is_query (Plain l) = old.is_query l
is_query _ = false

-- how many of the lines are queries
abbrev pub query_count : List MoreLine → ℕ
query_count ls = count_by is_query ls

-- ---- a line after others

-- the replica that acts in the line, if one does, is in the header
abbrev pub is_known : List ℕ → MoreLine → Bool
is_known ids (Plain l) = old.is_known ids l
is_known ids (Select r n ps) = is_among ids r
is_known ids (Share r n) = is_among ids r
is_known ids (Selected r a) = is_among ids r
is_known ids (Fold r s e) = is_among ids r
is_known ids (Unfold r s e) = is_among ids r
is_known ids (Folded r) = is_among ids r
is_known ids (Display r o) = is_among ids r
is_known ids (Excerpt n r s e) = is_among ids r
is_known ids (Multi n) = true
is_known ids (Medit n ps) = true

-- what the line asks for by a name, if it does, is kept under it
abbrev pub is_named : MoreState → MoreLine → Bool
is_named s (Plain l) = old.is_named_by (has_name s.plain.anchors) (has_name s.plain.marks) l
is_named s (Share r n) = has_name s.selects n
is_named s (Multi n) = has_name s.excerpts n
is_named s (Medit n ps) = has_name s.excerpts n
is_named s _ = true

-- the name under which the line keeps selections, if it does
abbrev pub select_name : MoreLine → Option (List ℕ)
select_name (Select r n ps) = Some n
select_name _ = None

-- the name under which the line makes an excerpt, if it does
abbrev pub excerpt_name : MoreLine → Option (List ℕ)
excerpt_name (Excerpt n r s e) = Some n
excerpt_name _ = None

abbrev pub plain_taken_in : MoreLine → BeforeState → BeforeState
plain_taken_in (Plain l) b = taken_in l b
plain_taken_in (Medit n ps) b = operations_raised (length b.replicas) b
plain_taken_in _ b = b

-- what the line after this one is checked against
abbrev pub more_taken_in : MoreLine → MoreState → MoreState
more_taken_in line s = record {
  plain = plain_taken_in line s.plain;
  selects = with_name (select_name line) s.selects;
  excerpts = with_name (excerpt_name line) s.excerpts;
}

-- ---- for private clauses

abbrev pub is_further : MoreLine → Bool
is_further (Plain l) = false
is_further _ = true

-- it is no line of `session_lines`
abbrev pub IsFurther : MoreLine → Type 0
IsFurther line = is_further line ≡ true
