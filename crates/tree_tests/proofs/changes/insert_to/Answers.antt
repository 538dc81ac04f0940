use Rattle.std.proofs.Common.{arith}
use Rattle.sum_tree.specs.Keyed.{insert_item}
use Rattle.sum_tree.proofs.Keys.{inserted_short}
use Rattle.tree_tests.proofs.changes.insert_to.Goals as goal

pub insert-requires-clause-short : goal.insert-requires-clause-short
insert-requires-clause-short g c = omega (arith, inserted_short g.T.Key.Ord.cmp g.T.KeyedItem.key_of g.met.T.Key.Ord.total c.in_ok-item.item c.args.tree.now.items, c.if-len-ge-MOST.false, c.len.ensures)

pub insert-requires-clause-fits : goal.insert-requires-clause-fits
insert-requires-clause-fits g c =
    g.met.T.Numbered.sums_fit (insert_item g.T.Key.Ord.cmp g.T.KeyedItem.key_of c.in_ok-item.item c.args.tree.now.items) (omega (arith, inserted_short g.T.Key.Ord.cmp g.T.KeyedItem.key_of g.met.T.Key.Ord.total c.in_ok-item.item c.args.tree.now.items, c.if-len-ge-MOST.false, c.len.ensures))
