use Rattle.std.proofs.Common.{◌≡◌, ◌&&◌, not, nat_lt, drop}
use Rattle.std.specs.Prelude.{option_map}
use Rattle.std.specs.List.{find}
use Rattle.op_model.specs.Answers.{is_entry_closed}
use Rattle.op_answers.proofs.found.first_open.Given as goal

abbrev pub invariant-loop-entry : goal.invariant-loop-entry
invariant-loop-entry l = option_map (λ e. e.0) (find (λ e. nat_lt 0 e.1 && not (is_entry_closed l.applied l.version e)) (drop l.entry-index l.entries))
    ≡ option_map (λ e. e.0) (find (λ e. nat_lt 0 e.1 && not (is_entry_closed l.applied l.version e)) l.entries)
