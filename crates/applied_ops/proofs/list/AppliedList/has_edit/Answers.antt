use Rattle.std.proofs.Common.{ap, ◌∙◌}
use Rattle.applied_ops.specs.Placed.{is_edit_found}
use Rattle.applied_ops.proofs.Found.{edit_found}
use Rattle.applied_ops.proofs.list.AppliedList.has_edit.Goals as goal

pub returns : goal.returns
returns c = c.is_edit.ensures ∙ ap is_edit_found c.find.ensures ∙ edit_found c.args.self.now c.args.t c.requires
