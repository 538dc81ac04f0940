-- The lines that forms stand for, for private clauses.
use Rattle.std.specs.Prelude.{[], ◌∷◌}
use Rattle.session_more.specs.declared.kept.Form.{Form}
use Rattle.session_more.specs.declared.kept.Form.TheVariants as form
use Rattle.session_more.specs.declared.session.MoreLine.{MoreLine}
use Rattle.session_more.specs.declared.session.MoreLine.TheVariants.{Plain, Select, Share, Selected, Fold, Unfold, Folded, Display, Excerpt, Multi}

-- the line of a form
abbrev pub line_of : Form → MoreLine
line_of (form.Plain l) = Plain l
line_of (form.Select r n s e) = Select r n.bytes ((s, e) ∷ [])
line_of (form.Share r n) = Share r n.bytes
line_of (form.Selected r a) = Selected r a
line_of (form.Fold r s e) = Fold r s e
line_of (form.Unfold r s e) = Unfold r s e
line_of (form.Folded r) = Folded r
line_of (form.Display r o) = Display r o
line_of (form.Excerpt n r s e) = Excerpt n.bytes r s e
line_of (form.Multi n) = Multi n.bytes
line_of (form.Whole l) = l.value
