-- What the forms of texts and lists stand for.
use Rattle.std.specs.Prelude.{ℕ, List, [], ◌∷◌, string_bytes}
use Rattle.std.specs.Arc.{arc_value}
use Rattle.op_model.specs.declared.items.Items.{Items}
use Rattle.op_model.specs.declared.items.Items.TheVariants.{Own, One, Several}
use Rattle.op_model.specs.declared.lists.TextForm.{TextForm}
use Rattle.op_model.specs.declared.lists.TextForm.TheVariants.{Short, Long}
use Rattle.op_model.specs.declared.lists.CountForm.{CountForm}
use Rattle.op_model.specs.declared.lists.CountForm.TheVariants as form
use Rattle.op_model.specs.declared.operation.UndoCount.{UndoCount}

-- the items, whoever owns them
abbrev pub items_of : {T : Type 0} → Items T → List T
items_of (Own items) = items.items
items_of (One item) = arc_value item ∷ []
items_of (Several items) = (arc_value items).items

-- the bytes of a text, wherever they lie
abbrev pub form_bytes : TextForm → List ℕ
form_bytes (Short text) = text.bytes
form_bytes (Long text) = string_bytes text

-- the counts, whoever owns them
abbrev pub form_counts : CountForm → List UndoCount
form_counts (form.One count) = count ∷ []
form_counts (form.Own counts) = counts.items
form_counts (form.Shared counts) = (arc_value counts).items
