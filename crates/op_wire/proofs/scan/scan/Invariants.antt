use Rattle.std.proofs.Common.{length}
use Rattle.op_wire.specs.Stages.{Leads}
use Rattle.op_wire.proofs.scan.scan.Given as goal

abbrev pub invariant-loop-next : goal.invariant-loop-next
invariant-loop-next l = Leads l.fn.first l.bytes l.stage l.rest

abbrev pub decreases-loop-next : goal.decreases-loop-next
decreases-loop-next l = length l.rest
