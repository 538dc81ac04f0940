use Rattle.std.proofs.Common.{◌∙◌, ap, sym}
use Rattle.std.specs.List.{find}
use Rattle.std.specs.Map.{values_of}
use Rattle.std.specs.declared.ops.Bound.TheVariants.{Unbounded}
use Rattle.std.specs.BTreeMap.Range.{entries_between}
use Rattle.lamport_clock.specs.Stamps.{stamp_cmp}
use Rattle.deferred_ops.specs.Deferred.{least_ready, misses_nothing}
use Rattle.deferred_ops.proofs.Keyed.{first_ready}
use Rattle.deferred_ops.proofs.deferred.Deferred.ready.Goals as goal

pub loop-op-init : goal.loop-op-init
loop-op-init c =
    let es = c.self.inside.waiting.entries in
    let have = c.args.have.now in
    let range = c.range-op-items.ensures.between tt ∙ ap (λ b. entries_between stamp_cmp b Unbounded es) c.start_past.ensures in
    ap (least_ready c.args.after have) (sym c.self.view_is) ∙ first_ready c.args.after have es c.self.invariant.0 ∙ ap (λ z. find (misses_nothing have) (values_of z)) (sym (c.into_iter-op-iterator.ensures.into_iter_gives ∙ range))
