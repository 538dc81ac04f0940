use Rattle.lamport_clock.specs.Clocks.{last_value}
use Rattle.std.proofs.Common.{◌≡◌, ◌++◌, eqb, map, drop, None}
use Rattle.std.specs.List.{find}
use Rattle.undo_map.specs.Counts.{count_of}
use Rattle.undo_map.specs.Undos.{next_of}
use Rattle.undo_map.proofs.next.next_counts.Given as goal

abbrev pub invariant-loop-edit : goal.invariant-loop-edit
invariant-loop-edit l = record {
  made : l.counts.items ++ map (next_of l.undos) (drop l.edit-index l.edits) ≡ map (next_of l.undos) l.edits;
  room : find (λ t. eqb (count_of l.undos t) last_value) (drop l.edit-index l.edits) ≡ None;
}
