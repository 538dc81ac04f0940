use Rattle.std.proofs.Common.{subst, sym, arith}
use Rattle.op_wire.specs.declared.scan.Stage.{Stage}
use Rattle.op_wire.specs.declared.scan.Stage.TheVariants.{Entries}
use Rattle.op_wire.specs.declared.scan.Pause.{Pause}
use Rattle.op_wire.specs.Stages.{PauseCause}
use Rattle.op_wire.proofs.Stages.{Step, pause-cause, tail_leads, tail_short}
use Rattle.op_wire.proofs.scan.tail.Goals as goal

pub returns-in-Ok : goal.returns-in-Ok
returns-in-Ok c =
    let stage = Entries c.args.is_undo 0 c.args.least in
    subst (λ (s : Stage). Step stage c.args.bytes.now s c.in-Ok.rest.now) (sym c.parts_of.ensures) (tail_leads c.args.is_undo c.args.least c.args.bytes.now c.in-Ok.rest.now c.in-Ok.left (λ i. omega (arith, c.type_inv.bytes i)) c.in-Ok.ensures)

pub returns-in-Err : goal.returns-in-Err
returns-in-Err c =
    let stage = Entries c.args.is_undo 0 c.args.least in
    subst (λ (p : Pause). PauseCause p stage c.args.bytes.now) (sym c.pause_of.ensures) (pause-cause stage c.args.bytes.now c.in-Err.error _ c.in-Err.ensures (tail_short c.args.is_undo c.args.least c.args.bytes.now))
