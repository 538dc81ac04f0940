use Rattle.std.proofs.Common.{◌+◌, ◌-◌, ◌≤◌, drop, length}
use Rattle.remote_edit.specs.declared.among.Lent.{Lent}
use Rattle.remote_edit.specs.Among.{kept_count}
use Rattle.remote_edit.proofs.MovesAmong.{Walked}
use Rattle.remote_edit.proofs.among.moves_counted.Given as goal

abbrev pub invariant-loop-moves : goal.invariant-loop-moves
invariant-loop-moves g l = record {
  walked : Walked (λ (k : Lent g.row.K.Denot). g.K.Keep.keeps k.keep.now) (g.K.Keep.keeps l.may_change) (g.C.Change.does l.change) l.tree.items l.moves l.found l.at;
  cost : l.steps + kept_count (g.K.Keep.keeps l.may_change) (drop l.found.next l.tree.items) ≤ l.initial.steps + kept_count (g.K.Keep.keeps l.may_change) l.tree.items;
}

abbrev pub decreases-loop-moves : goal.decreases-loop-moves
decreases-loop-moves g l = length l.tree.items - l.found.next
