use Rattle.std.proofs.Common.{subst, sym, arith}
use Rattle.op_wire.specs.declared.scan.Stage.TheVariants.{Counts}
use Rattle.op_wire.specs.declared.scan.Pause.{Pause}
use Rattle.op_wire.specs.Stages.{PauseCause}
use Rattle.op_wire.proofs.Stages.{pause-cause, count_leads, count_short}
use Rattle.op_wire.proofs.scan.count.Goals as goal

pub returns-in-Ok : goal.returns-in-Ok
returns-in-Ok c = count_leads c.args.left c.args.bytes.now c.in-Ok.rest.now _ (λ i. omega (arith, c.type_inv.bytes i)) (omega arith) c.in-Ok.ensures

pub returns-in-Err : goal.returns-in-Err
returns-in-Err c =
    let stage = Counts c.args.left in
    subst (λ (p : Pause). PauseCause p stage c.args.bytes.now) (sym c.pause_of.ensures) (pause-cause stage c.args.bytes.now c.in-Err.error _ c.in-Err.ensures (count_short c.args.left c.args.bytes.now (omega arith)))
