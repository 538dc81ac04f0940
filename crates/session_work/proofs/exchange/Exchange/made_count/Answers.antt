use Rattle.std.proofs.Common.{List, is_some, ap, sym, ◌∙◌}
use Rattle.std.specs.List.{count_by}
use Rattle.session_work.specs.Exchange.{ExchangeState, is_named}
use Rattle.session_work.specs.declared.exchange.Named.{Named}
use Rattle.session_work.proofs.Kept.{counted}
use Rattle.session_work.proofs.exchange.Exchange.made_count.Goals as goal

pub returns : goal.returns
returns c =
    c.named_count.ensures ∙ ap (λ (ks : List Named). count_by is_named ks) c.as_slice.ensures.value
    ∙ sym (counted c.self.inside.replicas c.self.inside.named.items c.self.invariant) ∙ ap (λ (s : ExchangeState). count_by is_some s.operations) c.self.view_is
