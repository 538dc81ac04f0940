use Rattle.std.proofs.Common.{◌∙◌, ap, length, arith}
use Rattle.rope_edits.proofs.moving.apply_moves_into.Goals as goal
use Rattle.op_model.proofs.texts.Pieces.{total_is}

pub move_texts-requires-2-clause-room : goal.move_texts-requires-2-clause-room
move_texts-requires-2-clause-room c = let n = total_is c.args.pieces.now in let m = ap length (c.as_str-2.ensures.value ∙ c.in_ok-fresh.ensures) in let r = c.requires.room in omega (arith, n, m, r)
