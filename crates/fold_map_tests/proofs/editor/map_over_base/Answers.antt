use Rattle.std.proofs.Common.{ap, ◌∙◌}
use Rattle.op_model.specs.Settled.{State}
use Rattle.fold_map_tests.proofs.editor.map_over_base.Goals as goal

pub returns : goal.returns
returns g c = c.map_of.ensures ∙ ap (λ (s : State). s.history) c.open_as-buffer.ensures
