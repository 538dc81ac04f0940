use Rattle.std.proofs.Common.{ap, ◌∙◌}
use Rattle.session_work.specs.Exchange.{ExchangeState}
use Rattle.session_work.proofs.Kept.{all_stay, still_there, grown}
use Rattle.session_work.proofs.Growth.{all_themselves}
use Rattle.session_work.proofs.exchange.Exchange.give.Goals as goal

pub invariant_of-self : goal.invariant_of-self
invariant_of-self c = still_there c.self.inside.replicas c.give.new.self c.give.ensures.grows c.self.inside.named.items c.self.invariant

pub returns-clause-operations : goal.returns-clause-operations
returns-clause-operations c =
    all_stay c.self.inside.replicas c.give.new.self c.give.ensures.grows c.self.inside.named.items c.self.invariant ∙ ap (λ (s : ExchangeState). s.operations) c.self.view_is

pub returns-in_err-operation-clause-grows : goal.returns-in_err-operation-clause-grows
returns-in_err-operation-clause-grows c = all_themselves c.args.self.now.buffers

pub returns-clause-grows : goal.returns-clause-grows
returns-clause-grows c = grown c.args.self.now c.self.inside.replicas c.give.new.self c.self.inside.named.items c.self.view_is c.give.ensures.grows
