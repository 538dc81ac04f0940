use Rattle.std.proofs.lemmas.Result.{err_from_is_err_and}
use Rattle.op_wire.specs.Reading.{pieces_at}
use Rattle.op_wire.proofs.Loop.{pieces_go_on, pieces_end, pieces_done}
use Rattle.op_wire.proofs.reading.pieces_of.Goals as goal

pub returns-in_err-piece : goal.returns-in_err-piece
returns-in_err-piece c =
    let p = err_from_is_err_and c.from_residual.result c.from_residual.ensures.1 in
    rw (p.1, p.2) (pieces_end c.in_err-piece.field-0.0 c.loop.pieces.items c.args.amount c.loop.counter c.loop.so_far c.loop.rest.now (pieces_at c.args.amount 0 c.args.bytes.now) c.loop-test.true c.in_err-piece.ensures.read c.loop.invariant.read)

pub loop-preserved : goal.loop-preserved
loop-preserved c = record {
  room = rw c.as_str.ensures c.in_ok-piece.ensures.short;
  read = rw (c.in_ok-push.ensures.items, c.as_str.ensures) (pieces_go_on c.loop.pieces.items c.args.amount c.loop.counter c.loop.so_far c.loop.rest.now c.in_ok-piece.piece c.in_ok-piece.after.now (pieces_at c.args.amount 0 c.args.bytes.now) c.loop-test.true c.in_ok-piece.ensures.read c.loop.invariant.read);
}

pub returns : goal.returns
returns c = pieces_done c.loop.pieces.items c.args.amount c.loop.counter c.loop.so_far c.loop.rest.now (pieces_at c.args.amount 0 c.args.bytes.now) c.loop-test.false c.loop.invariant.read
