use Rattle.std.proofs.Common.{◌∙◌, sym}
use Rattle.fragments.proofs.Widening.{within_here, widened_here}
use Rattle.fragments.proofs.spans.Spans.widen_here.Goals as goal

pub bounds-as_slice-at : goal.bounds-as_slice-at
bounds-as_slice-at c = within_here c.args.self.now _ _ _ _ c.as_slice.ensures c.as_slice-2.ensures c.place_in-at.ensures.place c.requires

pub bounds-as_mut_slice-at : goal.bounds-as_mut_slice-at
bounds-as_mut_slice-at c = within_here c.args.self.now _ _ _ _ c.as_slice.ensures (c.as_mut_slice.ensures.value ∙ c.self.view_is) c.place_in-at.ensures.place c.requires

pub returns : goal.returns
returns c = widened_here c.args.self.now _ _ _ _ _ _ _ _ (sym c.self.view_is) c.as_slice.ensures c.as_slice-2.ensures c.as_mut_slice.ensures.value c.place_in-at.ensures.place c.hull.ensures c.requires
