use Rattle.std.proofs.Common.{ap, refl, sym}
use Rattle.sum_tree.specs.Seen.{Seen}
use Rattle.multi_buffer.specs.declared.excerpt.Excerpt.{Excerpt}
use Rattle.multi_buffer.specs.declared.members.Member.{Member}
use Rattle.multi_buffer.proofs.Indexed.{AreExcerpts-same}
use Rattle.multi_buffer.proofs.excerpts.Excerpts.share.Goals as goal

pub invariant_of-result : goal.invariant_of-result
invariant_of-result c =
    AreExcerpts-same c.self.inside.tree.items c.in_ok-tree.tree.items c.self.inside.members.items c.in_ok-members.members.items
    (ap (λ (t : Seen Excerpt). t.items) (sym c.in_ok-tree.ensures)) (ap (λ (t : Seen Member). t.items) (sym c.in_ok-members.ensures)) c.self.invariant

pub same-tree : goal.same-tree
same-tree c = refl
