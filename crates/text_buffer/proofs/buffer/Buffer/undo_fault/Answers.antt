use Rattle.std.proofs.Common.{sym, subst}
use Rattle.op_model.specs.Histories.{Distinct}
use Rattle.op_model.proofs.answers.Good.{lawful_ready}
use Rattle.text_buffer.proofs.buffer.Buffer.undo_fault.Goals as goal

pub listed_fault-requires-clause-distinct : goal.listed_fault-requires-clause-distinct
listed_fault-requires-clause-distinct c = subst Distinct (sym c.operations.ensures) (lawful_ready c.self.inside.document c.self.invariant.history.lawful).0.distinct
