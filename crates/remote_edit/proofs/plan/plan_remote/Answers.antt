use Rattle.remote_edit.proofs.plan.plan_remote.Goals as goal

pub plan_with-requires-clause-may : goal.plan_with-requires-clause-may
plan_with-requires-clause-may c = rw c.in_ok-share.ensures c.requires

pub returns : goal.returns
returns c = rw (← c.in_ok-share.ensures) c.plan_with.ensures
