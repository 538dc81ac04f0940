use Rattle.std.proofs.Common.{ap}
use Rattle.lamport_clock.specs.declared.stamp.Lamport.{Lamport}
use Rattle.selections.proofs.Keeping.{sets_of, state-kept}
use Rattle.selections.proofs.sets.SelectionSets.keep.Goals as goal

pub invariant_of-self-2 : goal.invariant_of-self-2
invariant_of-self-2 c =
    let s = sets_of c.self.inside.replica c.self.inside.clock.value c.self.inside.kept.items in
    state-kept c.args.op s c.observe.new.self.value c.put.new.kept.items c.requires c.self.invariant
    (ap (λ (t : Lamport). t.value) c.observe.ensures) c.in_ok-put.ensures.ok
