use Rattle.std.proofs.Common.{◌≡◌, Err, subst}
use Rattle.op_wire.specs.declared.fault.Stop.{Stop}
use Rattle.op_wire.specs.declared.fault.Stop.TheVariants.{Bad}
use Rattle.op_wire.specs.declared.fault.ReadError.{ReadError}
use Rattle.op_wire.specs.Reading.{Fails, record_at}
use Rattle.op_wire.proofs.Streams.{reached-more, shorter, stops_as}
use Rattle.op_wire.proofs.stream.records_of.Goals as goal

pub loop-op-smaller : goal.loop-op-smaller
loop-op-smaller c = shorter c.loop-op.rest.now c.in-Ok.op c.in-Ok.after.now c.loop-op.invariant.fits c.in-Ok.ensures

pub loop-op-preserved : goal.loop-op-preserved
loop-op-preserved c = rw c.in_ok-push-in-Ok.ensures.items (reached-more c.args.bytes.now c.args.into.now.items c.loop-op.into.items c.loop-op.rest.now c.in-Ok.op c.in-Ok.after.now c.loop-op.invariant c.in-Ok.ensures)

pub returns-in-Err-Stopped-Bad-clause-bad : goal.returns-in-Err-Stopped-Bad-clause-bad
returns-in-Err-Stopped-Bad-clause-bad c w n m same =
    let arm = c.in-Err-Stopped-Bad in
    let rest = c.loop-op.rest.now in
    let stop = subst (λ (e : ReadError). Fails e (record_at rest)) arm.field-0-is arm.ensures in
    let is = rw arm.field-0-is at arm.field-0-0-is in
    let faulty : record_at rest ≡ Err (Bad arm.word arm.left) = subst (λ (s : Stop). record_at rest ≡ Err s) is stop in
    stops_as c.args.bytes.now c.args.into.now.items c.loop-op.into.items rest arm.word _ w arm.left _ n m c.loop-op.invariant faulty arm.word-is arm.left-is same
