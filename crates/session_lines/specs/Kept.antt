-- The lines that forms stand for, for private clauses.
use Rattle.std.specs.Prelude.{[], ◌∷◌, Bool, false, true}
use Rattle.session_lines.specs.declared.kept.Form.{Form}
use Rattle.session_lines.specs.declared.kept.Form.TheVariants as form
use Rattle.session_lines.specs.declared.session.SessionLine.{SessionLine}
use Rattle.session_lines.specs.declared.session.SessionLine.TheVariants.{Edit, Undo, Give, Text, Anchor, Where, Mark, Since, Find, Point, Offset, Reopen}

-- the line of a form
abbrev pub line_of : Form → SessionLine
line_of (form.Edit r s e t) = Edit r (record { start = s; end = e; text = t.bytes } ∷ [])
line_of (form.Undo r n) = Undo r (n ∷ [])
line_of (form.Give r n) = Give r n
line_of (form.Text r) = Text r
line_of (form.Anchor r n o b) = Anchor r n.bytes o b
line_of (form.Where r n) = Where r n.bytes
line_of (form.Mark r n) = Mark r n.bytes
line_of (form.Since r n) = Since r n.bytes
line_of (form.Find r n) = Find r n.bytes
line_of (form.Point r o) = Point r o
line_of (form.Offset r k c) = Offset r k c
line_of (form.Reopen r) = Reopen r
line_of (form.Whole l) = l.value

-- it has no block of its own
abbrev pub is_short : Form → Bool
is_short (form.Edit r s e t) = true
is_short (form.Undo r n) = true
is_short (form.Give r n) = true
is_short (form.Text r) = true
is_short (form.Anchor r n o b) = true
is_short (form.Where r n) = true
is_short (form.Mark r n) = true
is_short (form.Since r n) = true
is_short (form.Find r n) = true
is_short (form.Point r o) = true
is_short (form.Offset r k c) = true
is_short (form.Reopen r) = true
is_short (form.Whole l) = false
