use Rattle.sum_tree.proofs.Exchanging.{copied_node}
use Rattle.sum_tree.proofs.exchange.copy_of.Goals as goal

pub tree_of-requires : goal.tree_of-requires
tree_of-requires g c = copied_node g.T.Summary.Summary.empty g.T.Summary.Summary.op g.T.Summary.Summary.fits g.T.Item.sum_of c.args.node.now c.in_ok-content.content c.in_ok-sum.sum c.in_ok-content.ensures c.in_ok-sum.ensures c.requires
