use Rattle.std.proofs.Common.{Option, Some, subst}
use Rattle.buffer_handles.specs.declared.replica.Replica.{Replica}
use Rattle.buffer_handles.specs.Replicas.{Agree, AgreeInside}
use Rattle.buffer_handles.proofs.laws.agrees_with.Goals as goal

pub returns-in-Some-clause-agree : goal.returns-in-Some-clause-agree
returns-in-Some-clause-agree c =
    let agree = subst (λ (r : Replica). Agree c.args.a.now r) c.deref.ensures c.replicas_agree.ensures in
    subst (λ (inside : Option Replica). AgreeInside (Some c.args.a.now) inside) c.in-Some.ensures.inside agree
