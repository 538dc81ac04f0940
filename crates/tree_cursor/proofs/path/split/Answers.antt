use Rattle.std.proofs.Common.{ap, ◌∙◌}
use Rattle.sum_tree.specs.Shape.{join_items}
use Rattle.tree_cursor.specs.Levels.{left_items, left_work, weights}
use Rattle.tree_cursor.proofs.Levels.{first_below, looks_first, looks_into}
use Rattle.tree_cursor.proofs.path.split.Goals as goal

pub returns-in-Some : goal.returns-in-Some
returns-in-Some g c = (
  ap left_items c.in-Trees.is ∙ ap join_items c.in-Some.ensures.cases.0,
  ap left_work c.in-Trees.is ∙ ap weights c.in-Some.ensures.cases.0,
  first_below c.args.left c.in-Trees.trees c.in-Some.tree.now c.in-Some.rest.now c.in-Trees.is c.in-Some.ensures.cases.0,
  looks_first c.args.left c.in-Trees.trees c.in-Some.tree.now c.in-Some.rest.now c.in-Trees.is c.in-Some.ensures.cases.0,
  looks_into c.args.left c.in-Trees.trees c.in-Some.tree.now c.in-Some.rest.now c.in-Trees.is c.in-Some.ensures.cases.0,
)
