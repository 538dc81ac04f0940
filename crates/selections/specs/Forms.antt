-- What the forms of a list of selections stand for.
use Rattle.std.specs.Prelude.{List}
use Rattle.std.specs.Arc.{arc_value}
use Rattle.selections.specs.declared.selection.RangeForm.{RangeForm}
use Rattle.selections.specs.declared.selection.RangeForm.TheVariants.{Own, Shared}
use Rattle.selections.specs.declared.selection.Selection.{Selection}

-- the selections, whoever owns them
abbrev pub form_ranges : RangeForm → List Selection
form_ranges (Own ranges) = ranges.items
form_ranges (Shared ranges) = (arc_value ranges).items
