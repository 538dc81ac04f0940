-- The forms of a line after the header.
use Rattle.std.specs.Prelude.{ℕ, List, [], ◌∷◌, codes, ◌&&◌, ◌==◌, Option, None, option_map, option_and_then, if◌then◌else◌}
use Rattle.serde_json.specs.Data.{Data}
use Rattle.serde_json.specs.Find.{as_str}
use Rattle.lamport_clock.specs.Versions.{Entries}
use Rattle.lamport_clock.specs.declared.stamp.Lamport.{Lamport}
use Rattle.op_model.specs.declared.operation.Piece.{Piece}
use Rattle.op_model.specs.declared.operation.UndoCount.{UndoCount}
use Rattle.session_lines.specs.Json.{whole_number, members_of, is_text}
use Rattle.op_model.specs.declared.anchor.Bias.{Bias}
use Rattle.session_lines.specs.Parts.{id_of_value, stamp_of_value, version_of_value, pieces_of_value, counts_of_value, numbers_of_value, bias_of_value}
use Rattle.session_lines.specs.declared.session.SessionLine.{SessionLine}
use Rattle.session_lines.specs.declared.session.SessionLine.TheVariants.{Edit, Undo, Op, Uop, Give, Text, Anchor, Where, Mark, Since, Find, Point, Offset, Reopen}

-- ---- the members after the word

abbrev pub edit_with : Option ℕ → Option (List Piece) → Option SessionLine
edit_with r ps = option_and_then (λ id. option_map (Edit id) ps) r

-- r, [[s, e, "t"], ..]
abbrev pub edit_from : List Data → Option SessionLine
edit_from (r ∷ ps ∷ []) = edit_with (id_of_value r) (pieces_of_value ps)
edit_from _ = None

abbrev pub undo_with : Option ℕ → Option (List ℕ) → Option SessionLine
undo_with r ns = option_and_then (λ id. option_map (Undo id) ns) r

-- r, [n, ..]
abbrev pub undo_from : List Data → Option SessionLine
undo_from (r ∷ ns ∷ []) = undo_with (id_of_value r) (numbers_of_value ns)
undo_from _ = None

abbrev pub op_with : Option Lamport → Option Entries → Option (List Piece) → Option SessionLine
op_with t v ps =
    option_and_then (λ s. option_and_then (λ u.
    option_map (λ x. Op (record { stamp = s; version = u; pieces = x })) ps) v) t

-- [value, replica], [[r, v], ..], [[s, e, "t"], ..]
abbrev pub op_from : List Data → Option SessionLine
op_from (t ∷ v ∷ ps ∷ []) = op_with (stamp_of_value t) (version_of_value v) (pieces_of_value ps)
op_from _ = None

abbrev pub uop_with : Option Lamport → Option Entries → Option (List UndoCount) → Option SessionLine
uop_with t v cs =
    option_and_then (λ s. option_and_then (λ u.
    option_map (λ x. Uop (record { stamp = s; version = u; counts = x })) cs) v) t

-- [value, replica], [[r, v], ..], [[value, replica, count], ..]
abbrev pub uop_from : List Data → Option SessionLine
uop_from (t ∷ v ∷ cs ∷ []) = uop_with (stamp_of_value t) (version_of_value v) (counts_of_value cs)
uop_from _ = None

abbrev pub give_with : Option ℕ → Option ℕ → Option SessionLine
give_with r n = option_and_then (λ id. option_map (Give id) n) r

-- r, n
abbrev pub give_from : List Data → Option SessionLine
give_from (r ∷ n ∷ []) = give_with (id_of_value r) (whole_number n)
give_from _ = None

-- r
abbrev pub text_from : List Data → Option SessionLine
text_from (r ∷ []) = option_map Text (id_of_value r)
text_from _ = None

abbrev pub anchor_with : Option ℕ → Option (List ℕ) → Option ℕ → Option Bias → Option SessionLine
anchor_with r t o b =
    option_and_then (λ id. option_and_then (λ name.
    option_and_then (λ place. option_map (Anchor id name place) b) o) t) r

-- r, "name", o, "left" or "right"
abbrev pub anchor_from : List Data → Option SessionLine
anchor_from (r ∷ t ∷ o ∷ b ∷ []) = anchor_with (id_of_value r) (as_str t) (whole_number o) (bias_of_value b)
anchor_from _ = None

abbrev pub name_with : Option ℕ → Option (List ℕ) → Option (ℕ × List ℕ)
name_with r t = option_and_then (λ id. option_map (λ name. (id, name)) t) r

-- r, "name"
abbrev pub name_from : List Data → Option (ℕ × List ℕ)
name_from (r ∷ t ∷ []) = name_with (id_of_value r) (as_str t)
name_from _ = None

abbrev pub where_from : List Data → Option SessionLine
where_from ds = option_map (λ p. Where p.0 p.1) (name_from ds)

abbrev pub mark_from : List Data → Option SessionLine
mark_from ds = option_map (λ p. Mark p.0 p.1) (name_from ds)

abbrev pub since_from : List Data → Option SessionLine
since_from ds = option_map (λ p. Since p.0 p.1) (name_from ds)

abbrev pub find_with : Option ℕ → Option (List ℕ) → Option SessionLine
find_with r t = option_and_then (λ id. option_map (Find id) t) r

-- r, "needle"
abbrev pub find_from : List Data → Option SessionLine
find_from (r ∷ t ∷ []) = find_with (id_of_value r) (as_str t)
find_from _ = None

abbrev pub point_with : Option ℕ → Option ℕ → Option SessionLine
point_with r o = option_and_then (λ id. option_map (Point id) o) r

-- r, o
abbrev pub point_from : List Data → Option SessionLine
point_from (r ∷ o ∷ []) = point_with (id_of_value r) (whole_number o)
point_from _ = None

abbrev pub offset_with : Option ℕ → Option ℕ → Option ℕ → Option SessionLine
offset_with r k c = option_and_then (λ id. option_and_then (λ row. option_map (Offset id row) c) k) r

-- r, row, column
abbrev pub offset_from : List Data → Option SessionLine
offset_from (r ∷ k ∷ c ∷ []) = offset_with (id_of_value r) (whole_number k) (whole_number c)
offset_from _ = None

-- r
abbrev pub reopen_from : List Data → Option SessionLine
reopen_from (r ∷ []) = option_map Reopen (id_of_value r)
reopen_from _ = None

-- ---- a line, by its word

-- lines that keep or ask for something under a name, and queries
abbrev pub asking_form : Data → List Data → Option SessionLine
asking_form w ds =
    if is_text (codes "anchor") w then anchor_from ds else
    if is_text (codes "where") w then where_from ds else
    if is_text (codes "mark") w then mark_from ds else
    if is_text (codes "since") w then since_from ds else
    if is_text (codes "find") w then find_from ds else
    if is_text (codes "point") w then point_from ds else
    if is_text (codes "offset") w then offset_from ds else None

-- the forms that version 2 adds
abbrev pub later_form : ℕ → Data → List Data → Option SessionLine
later_form v w ds = if (v == 2) && is_text (codes "reopen") w then reopen_from ds else asking_form w ds

abbrev pub form_of : ℕ → Data → List Data → Option SessionLine
form_of v w ds =
    if is_text (codes "edit") w then edit_from ds else
    if is_text (codes "undo") w then undo_from ds else
    if is_text (codes "op") w then op_from ds else
    if is_text (codes "uop") w then uop_from ds else
    if is_text (codes "give") w then give_from ds else
    if is_text (codes "text") w then text_from ds else later_form v w ds

abbrev pub line_from : ℕ → List Data → Option SessionLine
line_from v [] = None
line_from v (w ∷ ds) = form_of v w ds

-- the line of a session of a version that a value is, where it has a form of one
unfoldable pub line_of_value : ℕ → Data → Option SessionLine
line_of_value v d = option_and_then (line_from v) (members_of d)
