use Rattle.std.proofs.Common.{◌≡◌, drop}
use Rattle.session_work.specs.Making.{have_text}
use Rattle.session_work.proofs.making.have_text.Given as goal

abbrev pub invariant-loop-replica : goal.invariant-loop-replica
invariant-loop-replica l = have_text l.text (drop l.replica-index l.replicas) ≡ have_text l.text l.replicas
