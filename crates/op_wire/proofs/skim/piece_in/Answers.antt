use Rattle.std.proofs.Common.{arith}
use Rattle.op_wire.specs.Stages.{whole_piece}
use Rattle.op_wire.proofs.Parts.{fits_in}
use Rattle.op_wire.proofs.skim.piece_in.Goals as goal

pub returns-clause-short : goal.returns-clause-short
returns-clause-short c = fits_in (λ x. (whole_piece x.0.0 x.0.1.now, x.1.now)) c.args.so_far c.args.bytes.now c.any_piece_in.result (λ i. omega (arith, c.type_inv.bytes i)) c.any_piece_in.ensures
