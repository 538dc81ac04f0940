use Rattle.std.proofs.Common.{◌≡◌, ◌+◌, ◌++◌, ◌≤◌, length}
use Rattle.std.specs.Option.{option_copied}
use Rattle.fragments.specs.Laws.{cells_len}
use Rattle.remote_edit.specs.Indexes.{IsIndexed}
use Rattle.remote_edit.specs.Walk.{seen_bytes, Fit, advance}
use Rattle.remote_edit.specs.Steps.{before, after}
use Rattle.remote_edit.specs.Starts.{AllSeen, IsFew}
use Rattle.remote_edit.proofs.gather.Gather.pass.Given as goal

abbrev pub invariant-loop-left : goal.invariant-loop-left
invariant-loop-left l = record {
  order : l.initial.self.at ≤ l.self.at;
  from : l.self.from ≡ l.initial.self.from;
  place : l.self.place ≡ seen_bytes l.edit.version (before l.tree.items l.self.from l.self.made.items);
  goes : advance (option_copied l.marks) l.edit.stamp l.edit.version l.left (before l.tree.items l.self.from l.self.made.items) (after l.tree.items l.self.at l.self.back)
      ≡ advance (option_copied l.marks) l.edit.stamp l.edit.version l.initial.left (before l.tree.items l.initial.self.from l.initial.self.made.items) (after l.tree.items l.initial.self.at l.initial.self.back);
  few : AllSeen l.edit.version (after l.tree.items l.initial.self.at l.initial.self.back) → IsFew l.edit.version l.tree.items l.initial.self l.initial.left l.self l.left;
  fit : Fit (before l.tree.items l.self.from l.self.made.items ++ after l.tree.items l.self.at l.self.back);
  same : cells_len (before l.tree.items l.self.from l.self.made.items ++ after l.tree.items l.self.at l.self.back)
      ≡ cells_len (before l.tree.items l.initial.self.from l.initial.self.made.items ++ after l.tree.items l.initial.self.at l.initial.self.back);
  number : l.self.number ≡ l.initial.self.number;
  indexed : IsIndexed l.edit.stamp l.self.number (before l.tree.items l.self.from l.self.made.items ++ after l.tree.items l.self.at l.self.back) l.self.index;
}

abbrev pub decreases-loop-left : goal.decreases-loop-left
decreases-loop-left l = l.left + length (after l.tree.items l.self.at l.self.back)
