use Rattle.std.proofs.Common.{◌≤◌, length, arith}
use Rattle.sum_tree.proofs.Keys.{all_less}
use Rattle.sum_tree.proofs.keyed.all_before.Goals as goal

pub returns : goal.returns
returns g c =
    let xs = c.args.tree.now.items in
    let filled : 1 ≤ length xs = omega (arith, c.if-len-eq0.false, c.len.ensures) in
    all_less g.T.Key.Ord.cmp g.T.KeyedItem.key_of g.met.T.Key.Ord.total c.args.key.now xs c.ends_before.result c.requires.ascending filled c.ends_before.ensures
