use Rattle.std.proofs.Common.{◌≡◌, not, drop}
use Rattle.std.specs.List.{find}
use Rattle.op_model.specs.Histories.{has_edit}
use Rattle.op_answers.proofs.local_undo.first_unknown.Given as goal

abbrev pub invariant-loop-edit : goal.invariant-loop-edit
invariant-loop-edit l = find (λ t. not (has_edit l.applied t)) (drop l.edit-index l.edits) ≡ find (λ t. not (has_edit l.applied t)) l.edits
