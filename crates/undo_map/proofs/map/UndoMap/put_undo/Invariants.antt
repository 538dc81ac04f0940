use Rattle.std.proofs.Common.{◌≡◌, ◌+◌, ◌≤◌, length, drop}
use Rattle.undo_map.specs.Undos.{with_counts}
use Rattle.undo_map.proofs.map.UndoMap.put_undo.Given as goal

abbrev pub invariant-loop-count : goal.invariant-loop-count
invariant-loop-count l = record {
  left : with_counts l.undo.stamp (drop l.count-index l.counts) l.map ≡ with_counts l.undo.stamp l.counts l.fn.self;
  room : length l.map ≤ length l.fn.self + l.count-index;
}
