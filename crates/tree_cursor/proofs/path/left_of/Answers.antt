use Rattle.tree_cursor.proofs.Levels.{weights_lt, looks_all}
use Rattle.tree_cursor.proofs.path.left_of.Goals as goal

pub returns-in-Inner-clause-work : goal.returns-in-Inner-clause-work
returns-in-Inner-clause-work g c = weights_lt c.args.node.now.height c.in-Inner.children.now c.in-Inner.ensures.2 c.in-Inner.ensures.4

pub returns-in-Inner-clause-looks : goal.returns-in-Inner-clause-looks
returns-in-Inner-clause-looks g c = looks_all c.args.node.now.height c.in-Inner.children.now c.in-Inner.ensures.2 c.in-Inner.ensures.4
