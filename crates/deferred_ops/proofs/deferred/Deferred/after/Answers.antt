use Rattle.std.proofs.Common.{◌∙◌, ap, sym}
use Rattle.std.specs.Map.{values_of}
use Rattle.std.specs.List.{slice_get}
use Rattle.std.specs.Option.{option_copied}
use Rattle.std.specs.declared.ops.Bound.{Bound}
use Rattle.std.specs.declared.ops.Bound.TheVariants.{Unbounded}
use Rattle.std.specs.BTreeMap.Range.{entries_between}
use Rattle.lamport_clock.specs.Stamps.{stamp_cmp}
use Rattle.lamport_clock.specs.declared.stamp.Lamport.{Lamport}
use Rattle.deferred_ops.specs.Deferred.{least_past}
use Rattle.deferred_ops.proofs.Keyed.{Keyed, first_past}
use Rattle.deferred_ops.proofs.deferred.Deferred.after.Goals as goal

pub returns-in_err-op : goal.returns-in_err-op
returns-in_err-op c =
    let es = c.self.inside.waiting.entries in
    let range = c.range.ensures.between tt ∙ ap (λ (b : Bound Lamport). entries_between stamp_cmp b Unbounded es) c.start_past.ensures in
    ap option_copied c.from_residual.ensures
    ∙ sym (ap (least_past c.args.t) (sym c.self.view_is) ∙ first_past c.args.t es c.self.invariant.0 ∙ ap (λ (z : Keyed). slice_get (values_of z) 0) (sym range ∙ c.in_err-op.ensures.steps.0))

pub returns : goal.returns
returns c =
    let es = c.self.inside.waiting.entries in
    let range = c.range.ensures.between tt ∙ ap (λ (b : Bound Lamport). entries_between stamp_cmp b Unbounded es) c.start_past.ensures in
    sym (ap (least_past c.args.t) (sym c.self.view_is) ∙ first_past c.args.t es c.self.invariant.0 ∙ ap (λ (z : Keyed). slice_get (values_of z) 0) (sym range ∙ c.in_ok-op.ensures.steps))
