use Rattle.std.proofs.Common.{◌≡◌, ◌≤◌, ◌^◌, length}
use Rattle.fragments.specs.Index.{IsAscending, with_entries}
use Rattle.fragments.proofs.recent.move_in.Given as goal

abbrev pub invariant-loop-first : goal.invariant-loop-first
invariant-loop-first l = record {
  ascending : IsAscending l.tree.items;
  short : length (with_entries l.entries.items l.tree.items) ≤ 2 ^ 40;
  same : with_entries l.entries.items l.tree.items ≡ with_entries l.initial.entries.items l.initial.tree.items;
}

abbrev pub decreases-loop-first : goal.decreases-loop-first
decreases-loop-first l = length l.entries.items
