use Rattle.std.proofs.Common.{◌≡◌, ◌++◌, drop}
use Rattle.session_work.specs.Work.{histories}
use Rattle.session_work.proofs.replay.Progress.snapshots.Given as goal

abbrev pub invariant-loop-replica : goal.invariant-loop-replica
invariant-loop-replica l = l.snapshots.items ++ histories (drop l.replica-index l.replica-items) ≡ histories l.self.exchange.buffers
