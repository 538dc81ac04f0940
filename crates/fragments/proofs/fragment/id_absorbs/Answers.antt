use Rattle.std.proofs.Common.{sym, ap, ◌∙◌}
use Rattle.std.specs.Ordering.{is_le}
use Rattle.fragments.proofs.Exchanging.{id_under}
use Rattle.fragments.proofs.fragment.id_absorbs.Goals as goal

pub returns-in-Some-Some : goal.returns-in-Some-Some
returns-in-Some-Some c = λ h.
    let k = id_under c.in-Some-Some.x.now c.in-Some-Some.y.now (ap is_le (sym c.cmp.ensures) ∙ sym c.is_le.ensures ∙ h) in
    rw (c.in-Some-Some.is-0, c.in-Some-Some.is-1) k
