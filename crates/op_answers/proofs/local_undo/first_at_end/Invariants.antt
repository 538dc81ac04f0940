use Rattle.lamport_clock.specs.Clocks.{last_value}
use Rattle.std.proofs.Common.{◌≡◌, eqb, drop}
use Rattle.std.specs.List.{find}
use Rattle.undo_map.specs.Counts.{count_of}
use Rattle.op_answers.proofs.local_undo.first_at_end.Given as goal

abbrev pub invariant-loop-edit : goal.invariant-loop-edit
invariant-loop-edit l = find (λ t. eqb (count_of l.undos t) last_value) (drop l.edit-index l.edits) ≡ find (λ t. eqb (count_of l.undos t) last_value) l.edits
