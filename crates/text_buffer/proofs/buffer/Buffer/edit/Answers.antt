use Rattle.std.proofs.Common.{subst}
use Rattle.text_buffer.specs.Buffer.{BufferState}
use Rattle.text_buffer.specs.Costs.{IsEditCost}
use Rattle.text_buffer.proofs.Costs.{kept_cost}
use Rattle.text_buffer.proofs.buffer.Buffer.edit.Goals as goal

pub returns-in-Some-clause-cost : goal.returns-in-Some-clause-cost
returns-in-Some-clause-cost g c =
    kept_cost c.args.self.now.history c.args.changes.now c.args.steps.now
    (subst (λ (b : BufferState). IsEditCost b.history c.args.changes.now 0) c.self.view_is (c.known_cost.ensures c.args.changes.now))
