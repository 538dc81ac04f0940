use Rattle.std.proofs.Common.{rules, ◌+◌}
use Rattle.sum_tree.proofs.Children.{fits_joined_take, fits_joined_drop}
use Rattle.std.proofs.lemmas.List.{take_rest}
use Rattle.sum_tree.proofs.around.around_child.Goals as goal

pub trees_sum-requires : goal.trees_sum-requires
trees_sum-requires g c =
    let fits = fits_joined_take g.met.T.Summary.Summary.laws g.T.Item.sum_of g.met.T.Item.admitted c.args.nodes.now c.args.k c.requires.fits in
    search rules

pub trees_sum-requires-2 : goal.trees_sum-requires-2
trees_sum-requires-2 g c =
    let fits = fits_joined_drop g.met.T.Summary.Summary.laws g.T.Item.sum_of g.met.T.Item.admitted c.args.nodes.now (c.args.k + 1) c.requires.fits in
    rw (take_rest c.args.nodes.now (c.args.k + 1)) (search rules)
