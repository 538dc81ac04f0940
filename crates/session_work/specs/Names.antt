-- What a session keeps under names, for all its replicas: anchors and versions.
use Rattle.std.specs.Prelude.{ℕ, List, map, Option, None, Some, String, string_bytes, is_none, if◌then◌else◌}
use Rattle.std.specs.BTreeMap.{insert_entry}
use Rattle.std.specs.Map.{lookup}
use Rattle.std.specs.Ordering.{nat_cmp}
use Rattle.std.specs.Cmp.Lexicographic.{slice_cmp}
use Rattle.std.specs.Str.{bytes_eq}
use Rattle.lamport_clock.specs.Versions.{Entries}
use Rattle.anchors.specs.Making.{made_anchor}
use Rattle.op_model.specs.Anchors.{place_fault, known_place}
use Rattle.op_model.specs.Histories.{History}
use Rattle.op_model.specs.Since.{since, since_fault}
use Rattle.op_model.specs.declared.anchor.Anchor.{Anchor}
use Rattle.op_model.specs.declared.anchor.Bias.{Bias}
use Rattle.op_model.specs.declared.anchor.TextEdit.{TextEdit}
use Rattle.op_model.specs.declared.faults.PlaceFault.{PlaceFault}
use Rattle.op_model.specs.declared.faults.SinceFault.{SinceFault}
use Rattle.session_lines.specs.declared.report.AnchorAnswer.{AnchorAnswer}
use Rattle.session_lines.specs.declared.report.AnchorAnswer.TheVariants as anchor
use Rattle.session_lines.specs.declared.report.WhereAnswer.{WhereAnswer}
use Rattle.session_lines.specs.declared.report.WhereAnswer.TheVariants as position
use Rattle.session_lines.specs.declared.report.SinceAnswer.{SinceAnswer}
use Rattle.session_lines.specs.declared.report.SinceAnswer.TheVariants as edits

-- values under names, each name once, in the names' order
abbrev pub Names : Type 0 → Type 0
Names A = List (List ℕ × A)

-- what is under the name
abbrev pub under : {A : Type 0} → List ℕ → Names A → Option A
under name es = lookup (bytes_eq name) es

-- with x under the name, in the place of what was there; where there is no x, all stays
abbrev pub with_name : {A : Type 0} → List ℕ → Option A → Names A → Names A
with_name name None es = es
with_name name (Some x) es = insert_entry (slice_cmp nat_cmp) es name x

-- ---- anchors

-- the anchor that is made at an offset of the text of h, where there is no fault
abbrev pub new_anchor : ℕ → Bias → History → Option Anchor
new_anchor o b h = if is_none (place_fault h o) then made_anchor h o b else None

-- what comes of making one
abbrev pub anchor_answer : Option PlaceFault → AnchorAnswer
anchor_answer None = anchor.Set
anchor_answer (Some e) = anchor.Fault e

-- what is said of a place, which may be unknown
abbrev pub where_at : Option ℕ → WhereAnswer
where_at None = position.Unknown
where_at (Some o) = position.Offset o

-- where an anchor, if there is one, is in the text of h
abbrev pub where_answer : Option Anchor → History → WhereAnswer
where_answer None h = position.Nothing
where_answer (Some a) h = where_at (known_place h a)

-- ---- versions

abbrev pub edits_unless : List TextEdit → Option SinceFault → SinceAnswer
edits_unless es None = edits.Edits es
edits_unless es (Some e) = edits.Fault e

-- what changed in the text of h since a version
abbrev pub since_answer : Entries → History → SinceAnswer
since_answer v h = edits_unless (since h v) (since_fault h v)

-- ---- for private clauses

-- the entries of a map by the bytes of their names
abbrev pub by_bytes : {X Y : Type 0} → List (String Y × X) → Names X
by_bytes es = map (λ e. (string_bytes e.0, e.1)) es
