use Rattle.std.proofs.Common.{◌≡◌, ◌+◌, ◌≤◌, ◌^◌, [], length, take, drop}
use Rattle.op_model.specs.Operations.{text_total}
use Rattle.remote_edit.specs.Indexes.{IsIndexed}
use Rattle.op_model.specs.Walked.{Ordered}
use Rattle.fragments.specs.Laws.{cells_len}
use Rattle.remote_edit.specs.Walk.{seen_bytes, Fit, walk}
use Rattle.remote_edit.specs.Starts.{AllSeen}
use Rattle.remote_edit.proofs.Budget.{IsOnBudget}
use Rattle.remote_edit.proofs.walk.Walk.pass_pieces.Given as goal

abbrev pub invariant-loop-piece : goal.invariant-loop-piece
invariant-loop-piece g l = record {
  seen : l.walk.place ≡ seen_bytes l.edit.version (take l.walk.at l.walk.tree.items);
  goes : walk l.undos l.edit.stamp l.edit.version l.place l.walk.number (drop l.piece-index l.piece-items) (take l.walk.at l.walk.tree.items) (drop l.walk.at l.walk.tree.items)
      ≡ walk l.undos l.edit.stamp l.edit.version 0 0 l.edit.pieces [] l.initial.walk.tree.items;
  budget : AllSeen l.edit.version l.initial.walk.tree.items → Ordered 0 (2 ^ 40) l.edit.pieces
      → IsOnBudget l.edit.version l.initial.walk.tree.items l.edit.pieces l.place (drop l.walk.at l.walk.tree.items) (drop l.piece-index l.piece-items) l.initial.steps l.steps;
  within : l.walk.at ≤ length l.walk.tree.items;
  fit : Fit l.walk.tree.items;
  room : cells_len l.walk.tree.items + text_total (drop l.piece-index l.piece-items) ≡ cells_len l.initial.walk.tree.items + text_total l.edit.pieces;
  number : l.walk.number + text_total (drop l.piece-index l.piece-items) ≡ text_total l.edit.pieces;
  indexed : IsIndexed l.edit.stamp l.walk.number l.walk.tree.items l.walk.index;
}
