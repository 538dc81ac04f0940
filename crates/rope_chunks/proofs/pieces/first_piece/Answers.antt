use Rattle.std.proofs.Common.{◌<◌, sym, arith}
use Rattle.std.proofs.lemmas.Str.{IsUtf8-take, IsUtf8-drop}
use Rattle.std.proofs.lemmas.List.{take-append-drop}
use Rattle.rope_chunks.proofs.Texts.{cut-some}
use Rattle.rope_chunks.proofs.pieces.first_piece.Goals as goal

pub returns-clause-joined : goal.returns-clause-joined
returns-clause-joined c = rw (c.split_at.ensures.front, c.split_at.ensures.back) (sym (take-append-drop c.floor_char_boundary.result c.args.text.now))

pub returns-clause-piece : goal.returns-clause-piece
returns-clause-piece c =
    let n = c.floor_char_boundary.result in
    let more : 0 < n = cut-some c.args.text.now 128 n c.utf8.text c.requires (omega arith) c.floor_char_boundary.ensures.nearest in
    record {
      text = rw c.split_at.ensures.front (IsUtf8-take c.args.text.now n c.utf8.text c.floor_char_boundary.ensures.boundary);
      some = omega (arith, c.split_at.ensures.front_len);
      few = omega (arith, c.split_at.ensures.front_len, c.floor_char_boundary.ensures.bound);
    }

pub returns-clause-shorter : goal.returns-clause-shorter
returns-clause-shorter c =
    let n = c.floor_char_boundary.result in
    let more : 0 < n = cut-some c.args.text.now 128 n c.utf8.text c.requires (omega arith) c.floor_char_boundary.ensures.nearest in
    omega (arith, c.split_at.ensures.back_len)

pub returns-clause-rest : goal.returns-clause-rest
returns-clause-rest c = rw c.split_at.ensures.back (IsUtf8-drop c.args.text.now c.floor_char_boundary.result c.utf8.text c.floor_char_boundary.ensures.boundary)
