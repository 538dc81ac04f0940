use Rattle.std.proofs.Common.{◌≡◌, ◌++◌, drop, map}
use Rattle.session_work.specs.Work.{first_buffer}
use Rattle.session_work.proofs.replicas.open_replicas.Given as goal

abbrev pub invariant-loop-id : goal.invariant-loop-id
invariant-loop-id l = l.replicas.items ++ map (first_buffer l.base) (drop l.id-index l.ids) ≡ map (first_buffer l.base) l.ids
