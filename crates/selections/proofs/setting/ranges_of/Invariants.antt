use Rattle.std.proofs.Common.{◌≡◌, ◌++◌, Some, drop, false, map}
use Rattle.std.specs.List.{AllByRecursion}
use Rattle.op_model.specs.Shown.{text}
use Rattle.selections.specs.declared.selection.Selection.{Selection}
use Rattle.selections.specs.Setting.{is_inside, selection_of}
use Rattle.selections.proofs.setting.ranges_of.Given as goal

abbrev pub invariant-loop-start : goal.invariant-loop-start
invariant-loop-start l = record {
  made : map (λ (r : Selection). Some r) l.made.items ++ map (selection_of l.snapshot) (drop l.start-index l.ranges) ≡ map (selection_of l.snapshot) l.ranges;
  outside : AllByRecursion (λ r. is_inside (text l.snapshot) r ≡ false) (drop l.start-index l.ranges);
}
