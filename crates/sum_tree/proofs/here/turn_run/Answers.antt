use Rattle.std.proofs.Common.{◌-◌, ◌++◌, ◌∙◌, List, take, drop, ap, arith}
use Rattle.sum_tree.proofs.Lists.{put_in}
use Rattle.sum_tree.proofs.here.turn_run.Goals as goal

pub returns-clause-ok : goal.returns-clause-ok
returns-clause-ok g c =
    let xs = c.args.list.now.items in
    let to = c.args.to in
    let b = c.len.result - to in
    let turned = c.rotate_left.ensures.items ∙ ap (λ (zs : List _). drop to zs ++ take to zs) c.in_ok-reserve.ensures.items in
    put_in c.args.from to b xs c.rotate_left.new.self.items c.truncate.new.self.items c.append.new.self.items c.rotate_left-2.new.self.items c.args.run.items c.requires.order c.requires.within (omega (arith, c.len.ensures, c.args.list.now.ok)) turned c.truncate.ensures.items c.in-Ok.ensures.items c.rotate_left-2.ensures.items
