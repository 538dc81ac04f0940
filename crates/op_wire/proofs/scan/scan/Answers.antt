use Rattle.std.proofs.Common.{subst}
use Rattle.op_wire.specs.declared.scan.Pause.{Pause}
use Rattle.op_wire.specs.Stages.{PauseCause}
use Rattle.op_wire.proofs.Stages.{stays_there, leads_on}
use Rattle.op_wire.proofs.scan.scan.Goals as goal

pub loop-next-init : goal.loop-next-init
loop-next-init c = stays_there c.args.first c.args.bytes.now

pub loop-next-preserved : goal.loop-next-preserved
loop-next-preserved c = leads_on c.args.first c.loop-next.stage c.in-Ok.next c.args.bytes.now c.loop-next.rest.now c.in-Ok.after.now c.loop-next.invariant c.in-Ok.ensures.0

pub loop-next-smaller : goal.loop-next-smaller
loop-next-smaller c = c.in-Ok.ensures.1

pub returns-in-Err-Waits : goal.returns-in-Err-Waits
returns-in-Err-Waits c = (c.loop-next.invariant, subst (λ (p : Pause). PauseCause p c.loop-next.stage c.loop-next.rest.now) c.in-Err-Waits.field-0-is c.in-Err-Waits.ensures)
