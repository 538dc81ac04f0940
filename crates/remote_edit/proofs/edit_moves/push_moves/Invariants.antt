use Rattle.std.proofs.Common.{◌≡◌, drop}
use Rattle.remote_edit.specs.BeforeEdit.{each_move}
use Rattle.remote_edit.proofs.edit_moves.push_moves.Given as goal

abbrev pub invariant-loop-fragment : goal.invariant-loop-fragment
invariant-loop-fragment l = each_move l.undos l.fn.edit l.moves (drop l.fragment-index l.fragments) ≡ each_move l.undos l.fn.edit l.initial.moves l.fragments
