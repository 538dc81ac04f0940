use Rattle.std.proofs.Common.{◌≡◌, ◌≤◌, ◌^◌, drop}
use Rattle.remote_edit.specs.Moves.{after_moves}
use Rattle.rope_edits.specs.Sides.{MayTake, outcome, sides_len}
use Rattle.rope_edits.proofs.moving.move_texts.Given as goal

abbrev pub invariant-loop-next : goal.invariant-loop-next
invariant-loop-next l = record {
  outcome : outcome l.sides (drop l.next-index l.moves) ≡ after_moves l.moves l.fn.shown l.fn.hidden l.fresh;
  takes : MayTake l.sides (drop l.next-index l.moves);
  room : sides_len l.sides ≤ 2 ^ 40;
}
