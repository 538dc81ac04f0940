use Rattle.std.proofs.Common.{◌≡◌, ◌++◌, drop, map}
use Rattle.selections.specs.Sets.{new_state}
use Rattle.session_selections.proofs.session.open_replicas.Given as goal

abbrev pub invariant-loop-id : goal.invariant-loop-id
invariant-loop-id l = l.replicas.items ++ map new_state (drop l.id-index l.ids) ≡ map new_state l.ids
