use Rattle.fragments.proofs.Widening.{set_here, insert_here}
use Rattle.fragments.proofs.spans.widen.Goals as goal

pub returns-in-Some-clause-ok : goal.returns-in-Some-clause-ok
returns-in-Some-clause-ok c = set_here _ _ _ _ _ _ _ _ c.as_slice.ensures c.as_slice-2.ensures c.as_mut_slice.ensures.value c.place_in-at.ensures.place c.in-Some.ensures c.hull.ensures

pub returns-in-Ok-clause-ok : goal.returns-in-Ok-clause-ok
returns-in-Ok-clause-ok c = insert_here _ _ _ _ _ _ c.as_slice.ensures c.as_slice-2.ensures c.place_in-at.ensures.place c.in_default.ensures c.in-Ok.ensures.ok
