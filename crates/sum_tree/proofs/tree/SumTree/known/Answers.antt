use Rattle.std.proofs.Common.{◌≡◌, ◌∙◌, ◌*◌, ◌^◌, ◌<◌, ap, length, subst, ◌≤◌}
use Rattle.sum_tree.specs.Seen.{Seen}
use Rattle.sum_tree.proofs.Opened.{node_is_low, node_is_tall}
use Rattle.sum_tree.proofs.Heights.{empty_node}
use Rattle.sum_tree.proofs.tree.SumTree.known.Goals as goal

pub returns-clause-low : goal.returns-clause-low
returns-clause-low g c =
    subst (λ (s : Seen _). s.height ≤ 15) c.self.view_is (node_is_low c.self.inside.node.value.height c.self.inside.node.value.content c.self.invariant.0 c.self.invariant.4)

pub returns-clause-empty : goal.returns-clause-empty
returns-clause-empty g c e =
    subst (λ (s : Seen _). s.height ≡ 0) c.self.view_is (empty_node c.self.inside.node.value.height c.self.inside.node.value.content c.self.invariant.0 (ap (λ (s : Seen _). s.items) c.self.view_is ∙ e))

pub returns-clause-tall : goal.returns-clause-tall
returns-clause-tall g c =
    subst (λ (s : Seen _). 0 < s.height → 2 * 6 ^ s.height ≤ length s.items) c.self.view_is (node_is_tall c.self.inside.node.value.height c.self.inside.node.value.content c.self.invariant.0)
