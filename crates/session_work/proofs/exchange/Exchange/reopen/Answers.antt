use Rattle.std.proofs.Common.{ap, ◌∙◌}
use Rattle.session_work.specs.Exchange.{ExchangeState}
use Rattle.session_work.proofs.Kept.{all_stay, still_there, grown}
use Rattle.session_work.proofs.exchange.Exchange.reopen.Goals as goal

pub invariant_of-self : goal.invariant_of-self
invariant_of-self c = still_there c.self.inside.replicas c.reopen.new.self c.reopen.ensures.grows c.self.inside.named.items c.self.invariant

pub returns-clause-operations : goal.returns-clause-operations
returns-clause-operations c =
    all_stay c.self.inside.replicas c.reopen.new.self c.reopen.ensures.grows c.self.inside.named.items c.self.invariant ∙ ap (λ (s : ExchangeState). s.operations) c.self.view_is

pub returns-clause-grows : goal.returns-clause-grows
returns-clause-grows c = grown c.args.self.now c.self.inside.replicas c.reopen.new.self c.self.inside.named.items c.self.view_is c.reopen.ensures.grows
