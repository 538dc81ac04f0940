use Rattle.std.proofs.Common.{◌≡◌, ◌++◌, ◌≤◌, length}
use Rattle.fragments.specs.Laws.{cells_len}
use Rattle.remote_edit.specs.Indexes.{IsIndexed}
use Rattle.remote_edit.specs.Walk.{seen_bytes, Fit, skip_later}
use Rattle.remote_edit.specs.Steps.{before, after}
use Rattle.remote_edit.specs.Starts.{AllSeen}
use Rattle.remote_edit.proofs.gather.Gather.skip_later.Given as goal

abbrev pub invariant-loop-alloc : goal.invariant-loop-alloc
invariant-loop-alloc l = record {
  order : l.initial.self.at ≤ l.self.at;
  from : l.self.from ≡ l.initial.self.from;
  place : l.self.place ≡ seen_bytes l.edit.version (before l.tree.items l.self.from l.self.made.items);
  goes : skip_later l.edit.stamp l.edit.version (before l.tree.items l.self.from l.self.made.items) (after l.tree.items l.self.at l.self.back)
      ≡ skip_later l.edit.stamp l.edit.version (before l.tree.items l.initial.self.from l.initial.self.made.items) (after l.tree.items l.initial.self.at l.initial.self.back);
  none : AllSeen l.edit.version (after l.tree.items l.initial.self.at l.initial.self.back) → (l.self.at ≡ l.initial.self.at) × (l.self.back ≡ l.initial.self.back);
  fit : Fit (before l.tree.items l.self.from l.self.made.items ++ after l.tree.items l.self.at l.self.back);
  same : cells_len (before l.tree.items l.self.from l.self.made.items ++ after l.tree.items l.self.at l.self.back)
      ≡ cells_len (before l.tree.items l.initial.self.from l.initial.self.made.items ++ after l.tree.items l.initial.self.at l.initial.self.back);
  number : l.self.number ≡ l.initial.self.number;
  indexed : IsIndexed l.edit.stamp l.self.number (before l.tree.items l.self.from l.self.made.items ++ after l.tree.items l.self.at l.self.back) l.self.index;
}

abbrev pub decreases-loop-alloc : goal.decreases-loop-alloc
decreases-loop-alloc l = length (after l.tree.items l.self.at l.self.back)
