use Rattle.std.proofs.Common.{◌≡◌, ◌++◌, drop, map}
use Rattle.session_folds.specs.State.{no_folds}
use Rattle.session_folds.proofs.session.open_replicas.Given as goal

abbrev pub invariant-loop-id : goal.invariant-loop-id
invariant-loop-id l = l.replicas.items ++ map no_folds (drop l.id-index l.ids) ≡ map no_folds l.ids
