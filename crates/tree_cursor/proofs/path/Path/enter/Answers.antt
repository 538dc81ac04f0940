use Rattle.std.proofs.Common.{ap, arith}
use Rattle.tree_cursor.proofs.Levels.{next_level}
use Rattle.tree_cursor.proofs.path.Path.enter.Goals as goal

pub invariant_of-self : goal.invariant_of-self
invariant_of-self g c =
    let i = c.self.inside in
    next_level i.above.items c.push.new.self.items i.level c.left_of-self-inside.result c.args.node.now.height c.push.ensures.items c.self.invariant (omega (arith, c.requires, ap (λ r. r.depth) c.self.view_is)) c.left_of-self-inside.ensures.below
