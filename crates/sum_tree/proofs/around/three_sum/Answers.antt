use Rattle.std.proofs.Common.{◌++◌, ◌∙◌}
use Rattle.sum_tree.proofs.Folds.{fits_left, fits_right}
use Rattle.sum_tree.proofs.Sums.{added_sum, added_fits}
use Rattle.sum_tree.proofs.around.three_sum.Goals as goal

pub entries_sum-requires : goal.entries_sum-requires
entries_sum-requires g c =
    record { fits = fits_left g.met.T.Summary.Summary.laws g.T.Item.sum_of g.met.T.Item.admitted c.args.front.now c.args.middle.now (fits_left g.met.T.Summary.Summary.laws g.T.Item.sum_of g.met.T.Item.admitted (c.args.front.now ++ c.args.middle.now) c.args.back.now c.requires) }

pub entries_sum-requires-2 : goal.entries_sum-requires-2
entries_sum-requires-2 g c =
    record { fits = fits_right g.met.T.Summary.Summary.laws g.T.Item.sum_of g.met.T.Item.admitted c.args.front.now c.args.middle.now (fits_left g.met.T.Summary.Summary.laws g.T.Item.sum_of g.met.T.Item.admitted (c.args.front.now ++ c.args.middle.now) c.args.back.now c.requires) }

pub add-requires : goal.add-requires
add-requires g c =
    added_fits g.met.T.Summary.Summary.laws g.T.Item.sum_of g.met.T.Item.admitted c.args.front.now c.args.middle.now c.in_ok-sum.sum c.in_ok-new.new c.in_ok-sum.ensures c.in_ok-new.ensures (fits_left g.met.T.Summary.Summary.laws g.T.Item.sum_of g.met.T.Item.admitted (c.args.front.now ++ c.args.middle.now) c.args.back.now c.requires)

pub entries_sum-requires-3 : goal.entries_sum-requires-3
entries_sum-requires-3 g c =
    record { fits = fits_right g.met.T.Summary.Summary.laws g.T.Item.sum_of g.met.T.Item.admitted (c.args.front.now ++ c.args.middle.now) c.args.back.now c.requires }

pub add-requires-2 : goal.add-requires-2
add-requires-2 g c =
    let two = c.in_ok-add.ensures.ok ∙ added_sum g.met.T.Summary.Summary.laws g.T.Item.sum_of g.met.T.Item.admitted c.args.front.now c.args.middle.now c.in_ok-sum.sum c.in_ok-new.new c.in_ok-sum.ensures c.in_ok-new.ensures in
    added_fits g.met.T.Summary.Summary.laws g.T.Item.sum_of g.met.T.Item.admitted (c.args.front.now ++ c.args.middle.now) c.args.back.now c.add.new.self c.in_ok-rest.rest two c.in_ok-rest.ensures c.requires

pub returns : goal.returns
returns g c =
    let two = c.in_ok-add.ensures.ok ∙ added_sum g.met.T.Summary.Summary.laws g.T.Item.sum_of g.met.T.Item.admitted c.args.front.now c.args.middle.now c.in_ok-sum.sum c.in_ok-new.new c.in_ok-sum.ensures c.in_ok-new.ensures in
    c.in_ok-add-2.ensures.ok ∙ added_sum g.met.T.Summary.Summary.laws g.T.Item.sum_of g.met.T.Item.admitted (c.args.front.now ++ c.args.middle.now) c.args.back.now c.add.new.self c.in_ok-rest.rest two c.in_ok-rest.ensures
