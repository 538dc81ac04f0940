use Rattle.tree_cursor.proofs.Levels.{first_level}
use Rattle.tree_cursor.proofs.path.Path.new.Goals as goal

pub invariant_of-result : goal.invariant_of-result
invariant_of-result g c = first_level c.new.result.items c.left_of.result c.args.tree.now.height c.new.ensures c.known.ensures.low c.left_of.ensures.below
