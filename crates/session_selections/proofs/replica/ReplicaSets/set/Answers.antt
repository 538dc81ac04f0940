use Rattle.std.proofs.Common.{◌≡◌, ◌⊎◌, Err, subst}
use Rattle.selections.specs.Sets.{SelectionState}
use Rattle.selections.specs.declared.faults.SetFault.TheVariants.{OutOfMemory}
use Rattle.session_selections.specs.Answers.{after_set, set_outcome}
use Rattle.session_selections.proofs.Outcomes.{after_set-new, set-outcome}
use Rattle.session_selections.proofs.replica.ReplicaSets.set.Goals as goal

pub returns-clause-outcome : goal.returns-clause-outcome
returns-clause-outcome c =
    subst (λ (s : SelectionState). (c.set.result ≡ set_outcome s c.args.snapshot.now c.args.ranges.now) ⊎ (c.set.result ≡ Err OutOfMemory)) c.self.view_is
    (set-outcome c.self.inside.sets c.args.snapshot.now c.args.ranges.now c.set.result c.set.ensures.ok c.set.ensures.stamp c.set.ensures.ranges c.set.ensures.fault)

pub returns-clause-after : goal.returns-clause-after
returns-clause-after c =
    subst (λ (s : SelectionState). c.set.new.self ≡ after_set c.set.result s) c.self.view_is
    (after_set-new c.set.result c.self.inside.sets c.set.new.self c.set.ensures.new c.set.ensures.err)
