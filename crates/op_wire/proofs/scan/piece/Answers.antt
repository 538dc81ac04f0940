use Rattle.std.proofs.Common.{subst, sym, arith}
use Rattle.op_wire.specs.declared.scan.Stage.TheVariants.{Pieces}
use Rattle.op_wire.specs.declared.scan.Pause.{Pause}
use Rattle.op_wire.specs.Stages.{PauseCause}
use Rattle.op_wire.proofs.Stages.{pause-cause, piece_leads, piece_short}
use Rattle.op_wire.proofs.scan.piece.Goals as goal

pub returns-in-Ok : goal.returns-in-Ok
returns-in-Ok c = piece_leads c.args.left c.args.so_far c.args.bytes.now c.in-Ok.rest.now c.in-Ok.sum (λ i. omega (arith, c.type_inv.bytes i)) (omega arith) c.in-Ok.ensures

pub returns-in-Err : goal.returns-in-Err
returns-in-Err c =
    let stage = Pieces c.args.left c.args.so_far in
    subst (λ (p : Pause). PauseCause p stage c.args.bytes.now) (sym c.pause_of.ensures) (pause-cause stage c.args.bytes.now c.in-Err.error _ c.in-Err.ensures (piece_short c.args.left c.args.so_far c.args.bytes.now (omega arith)))
