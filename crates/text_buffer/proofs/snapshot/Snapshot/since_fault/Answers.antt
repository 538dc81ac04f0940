use Rattle.std.proofs.Common.{◌∙◌, sym, subst}
use Rattle.op_model.specs.Histories.{Distinct}
use Rattle.op_model.proofs.answers.Good.{lawful_ready}
use Rattle.text_buffer.proofs.snapshot.Snapshot.since_fault.Goals as goal

pub open_replica-requires : goal.open_replica-requires
open_replica-requires c = subst Distinct (sym (c.operations.ensures ∙ c.self.view_is)) (lawful_ready c.args.self.now c.known.ensures.lawful).0.distinct
