use Rattle.std.proofs.Common.{◌≡◌, map, take}
use Rattle.c_values.specs.TextChanges.{text_change}
use Rattle.c_values.proofs.text_changes.text_changes_of.Given as goal

abbrev pub invariant-loop-edit : goal.invariant-loop-edit
invariant-loop-edit l = l.made.items ≡ map text_change (take l.edit-index l.edits)
