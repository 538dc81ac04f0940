use Rattle.std.proofs.Common.{drop}
use Rattle.remote_edit.specs.Places.{IsAfter}
use Rattle.remote_edit.proofs.edit_moves.left_from.Given as goal

abbrev pub invariant-loop-at : goal.invariant-loop-at
invariant-loop-at l = IsAfter l.left (drop l.at l.tree.items)
