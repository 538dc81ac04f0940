use Rattle.std.proofs.Common.{subst}
use Rattle.op_model.specs.Sorted.{Ascending}
use Rattle.op_model.specs.Steps.{older}
use Rattle.deferred_ops.proofs.Keyed.{ascending}
use Rattle.deferred_ops.proofs.deferred.Deferred.known.Goals as goal

pub returns : goal.returns
returns c = subst (Ascending older) c.self.view_is (ascending c.self.inside.waiting.entries c.self.invariant.0 c.len-count.ensures.ordered)
