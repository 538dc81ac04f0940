use Rattle.std.proofs.Common.{◌++◌, [], arith, length-append}
use Rattle.sum_tree.proofs.Children.{child_is_low}
use Rattle.sum_tree.proofs.grow.root.Goals as goal

pub overflow_add-height : goal.overflow_add-height
overflow_add-height g c =
    let pair = rw c.in-Some.is at c.requires.pair in
    let short = rw c.in-Some.is at c.requires.short in
    let few = length-append c.args.front.items (c.in-Some.back.items ++ []) in
    omega (arith, child_is_low _ c.args.front pair.1 (omega (arith, short, few)), c.height-height.ensures)
