use Rattle.std.proofs.Common.{◌+◌, ◌-◌, ◌≤◌, ◌^◌, length, take}
use Rattle.std.specs.List.{AllByRecursion, sum_by}
use Rattle.fragments.specs.declared.deleted_run.DeletedRun.{DeletedRun}
use Rattle.remote_edit.specs.Finds.{IsFound, HaveAll, HaveCells, HaveRun}
use Rattle.remote_edit.specs.Looks.{cell_looks, run_looks}
use Rattle.remote_edit.proofs.by_index.find_edit.Given as goal

abbrev pub invariant-loop-run : goal.invariant-loop-run
invariant-loop-run g l = record {
  kept : HaveAll l.fn.places.items l.places.items;
  cells : IsFound l.tree.items l.index → HaveCells l.tree.items l.fn.edit 0 (2 ^ 64 - 1) l.places.items;
  runs : IsFound l.tree.items l.index → AllByRecursion (λ (r : DeletedRun). HaveRun l.tree.items r l.places.items) (take l.run-index l.run-items);
  few : length l.places.items + l.fn.steps ≤ length l.fn.places.items + l.steps;
  cost : IsFound l.tree.items l.index → l.steps ≤ l.fn.steps + (cell_looks l.fn.edit 0 (2 ^ 64 - 1) l.tree.items + sum_by (run_looks l.tree.items) (take l.run-index l.run-items));
}
