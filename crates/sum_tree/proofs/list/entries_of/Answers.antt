use Rattle.std.specs.Vec.Iter.{into_iter_items}
use Rattle.sum_tree.proofs.Runs.{fits_item}
use Rattle.sum_tree.proofs.list.entries_of.Goals as goal

pub new-requires : goal.new-requires
new-requires g c =
    fits_item g.met.T.Summary.Summary.laws g.T.Item.sum_of g.met.T.Item.admitted c.loop-item.entries.items (into_iter_items c.loop-item.item-iterator) (into_iter_items c.next.new.self) c.args.items.items c.in-Some.item c.loop-item.invariant.2 c.in-Some.ensures.steps.0 c.requires.fits
