use Rattle.std.proofs.Common.{◌∙◌}
use Rattle.std.specs.Ordering.{nat_cmp}
use Rattle.lamport_clock.proofs.Order.{gt-partial, is_gt-later}
use Rattle.lamport_clock.proofs.stamp.is_later.Goals as goal

pub returns : goal.returns
returns c =
    let s = c.args.s in
    let t = c.args.t in
    c.gt.ensures ∙ gt-partial (nat_cmp s.value t.value) (nat_cmp s.replica t.replica) ∙ is_gt-later s t
