use Rattle.std.proofs.Common.{arith}
use Rattle.op_wire.proofs.Parts.{fits_in}
use Rattle.op_wire.proofs.reading.piece_of.Goals as goal

pub returns-clause-short : goal.returns-clause-short
returns-clause-short c = fits_in (λ x. (x.0, x.1.now)) c.args.so_far c.args.bytes.now c.any_piece_of.result (λ i. omega (arith, c.type_inv.bytes i)) c.any_piece_of.ensures
