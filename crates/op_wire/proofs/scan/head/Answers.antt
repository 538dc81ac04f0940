use Rattle.std.proofs.Common.{◌∷◌, subst, sym, arith}
use Rattle.op_wire.specs.declared.scan.Stage.TheVariants.{Start}
use Rattle.op_wire.specs.declared.scan.Pause.{Pause}
use Rattle.op_wire.specs.Stages.{kind, PauseCause}
use Rattle.op_wire.proofs.Stages.{pause-cause, head_leads, head_short}
use Rattle.op_wire.proofs.scan.head.Goals as goal

pub returns-in-Ok : goal.returns-in-Ok
returns-in-Ok c = head_leads c.args.is_undo c.args.bytes.now c.in-Ok.rest.now c.in-Ok.left (λ i. omega (arith, c.type_inv.bytes i)) c.in-Ok.ensures

pub returns-in-Err : goal.returns-in-Err
returns-in-Err c =
    let bytes = kind c.args.is_undo ∷ c.args.bytes.now in
    subst (λ (p : Pause). PauseCause p Start bytes) (sym c.pause_of.ensures) (pause-cause Start bytes c.in-Err.error _ c.in-Err.ensures (head_short c.args.is_undo c.args.bytes.now))
