use Rattle.std.proofs.Common.{refl}
use Rattle.multi_buffer.proofs.Indexed.{AreExcerpts-none}
use Rattle.multi_buffer.proofs.excerpts.Excerpts.new.Goals as goal

pub invariant_of-result : goal.invariant_of-result
invariant_of-result c = AreExcerpts-none c.in_ok-tree.tree.items c.in_ok-members.members.items c.in_ok-tree.ensures.items c.in_ok-members.ensures.items

pub same-tree : goal.same-tree
same-tree c = refl
