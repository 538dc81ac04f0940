use Rattle.std.proofs.Common.{◌∙◌, ap}
use Rattle.op_model.specs.Histories.{operation_at}
use Rattle.deferred_ops.proofs.Keyed.{looked_up}
use Rattle.deferred_ops.proofs.deferred.Deferred.get.Goals as goal

pub returns : goal.returns
returns c = c.get.ensures.value ∙ looked_up c.self.inside.waiting.entries c.args.t c.self.invariant.0 ∙ ap (λ w. operation_at w c.args.t) c.self.view_is
