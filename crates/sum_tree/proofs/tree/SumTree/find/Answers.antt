use Rattle.std.proofs.Common.{Some, sym, ap, ◌∙◌}
use Rattle.sum_tree.proofs.tree.SumTree.find.Goals as goal

pub returns-in-Ok : goal.returns-in-Ok
returns-in-Ok g c = sym (c.in-Ok.ensures.3 c.at.result.now ∙ ap Some (sym (c.at.ensures c.at.result.now)))
