use Rattle.std.proofs.Common.{subst, sym, arith}
use Rattle.op_wire.specs.declared.scan.Stage.TheVariants.{Entries}
use Rattle.op_wire.specs.declared.scan.Pause.{Pause}
use Rattle.op_wire.specs.Stages.{PauseCause}
use Rattle.op_wire.proofs.Stages.{pause-cause, entry_leads, entry_short}
use Rattle.op_wire.proofs.scan.entry.Goals as goal

pub returns-in-Ok : goal.returns-in-Ok
returns-in-Ok c = rw c.from-least.ensures (entry_leads c.args.is_undo c.args.left c.args.least c.args.bytes.now c.in-Ok.rest.now _ (λ i. omega (arith, c.type_inv.bytes i)) (omega arith) c.in-Ok.ensures)

pub returns-in-Err : goal.returns-in-Err
returns-in-Err c =
    let stage = Entries c.args.is_undo c.args.left c.args.least in
    subst (λ (p : Pause). PauseCause p stage c.args.bytes.now) (sym c.pause_of.ensures) (pause-cause stage c.args.bytes.now c.in-Err.error _ c.in-Err.ensures (entry_short c.args.is_undo c.args.left c.args.least c.args.bytes.now (omega arith)))
