use Rattle.std.proofs.Common.{sym, ap, ◌∙◌}
use Rattle.lamport_clock.specs.Versions.{Entries, sees}
use Rattle.op_answers.proofs.found.applied_at.Goals as goal
use Rattle.op_model.proofs.answers.Closing.{unseen_none}

pub returns-then-not-sees : goal.returns-then-not-sees
returns-then-not-sees c =
    sym (unseen_none c.args.applied.now c.args.t (ap (λ (v : Entries). sees v c.args.t) (sym c.requires) ∙ sym c.sees.ensures ∙ c.if-not-sees.true))
