use Rattle.text_dims.proofs.Characters.{sum_fits}
use Rattle.tree_tests.proofs.texts.sum_of.Goals as goal

pub add-requires : goal.add-requires
add-requires c = rw (c.of-sum.ensures.summary, c.of.ensures.summary) (sum_fits c.args.first.now c.args.second.now c.requires)
