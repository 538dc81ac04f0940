use Rattle.remote_edit.proofs.plan.plan_remote.Given as goal

abbrev pub ghosts-plan_with : goal.ghosts-plan_with
ghosts-plan_with a = record { name = a.blank.name; parts = a.blank.parts }
