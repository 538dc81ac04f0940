use Rattle.std.proofs.Common.{ap, ◌∙◌, Some}
use Rattle.anchors.proofs.Known.{compared_is}
use Rattle.anchors.proofs.finding.compare.Goals as goal

pub returns-clause-order : goal.returns-clause-order
returns-clause-order c = λ h s.
    ap (λ z. Some z) c.order.ensures ∙ compared_is h c.args.a.now c.args.b.now c.in_ok-first.first c.in_ok-second.second (c.in_ok-first.ensures.known h s) (c.in_ok-second.ensures.known h s)
