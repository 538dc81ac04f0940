use Rattle.std.proofs.Common.{◌≡◌, ◌+◌, ◌<◌, ◌^◌, List, ◌++◌, length, map, Option, Result, sym, ap, ap₂, subst, ◌∙◌}
use Rattle.std.specs.Result.{result_ok}
use Rattle.std.proofs.lemmas.List.{length-map}
use Rattle.op_model.specs.declared.operation.Operation.{Operation}
use Rattle.session_more.specs.declared.report.PartAnswer.{PartAnswer}
use Rattle.session_work.specs.Exchange.{ExchangeState, operation_in}
use Rattle.session_work.specs.Parts.{numbered, outcomes_from}
use Rattle.session_work.proofs.Kept.{all_stay, still_there, grown}
use Rattle.session_work.proofs.exchange.Exchange.edit_parts.Goals as goal

pub edit_parts-requires : goal.edit_parts-requires
edit_parts-requires c = subst (λ (s : ExchangeState). length s.buffers < 2 ^ 32) (sym c.self.view_is) c.requires

pub invariant_of-self : goal.invariant_of-self
invariant_of-self c = still_there c.self.inside.replicas c.edit_parts.new.self c.edit_parts.ensures.grows c.self.inside.named.items c.self.invariant

pub invariant_of-self-2 : goal.invariant_of-self-2
invariant_of-self-2 c =
    c.keep_outcomes.ensures.there c.edit_parts.new.self (still_there c.self.inside.replicas c.edit_parts.new.self c.edit_parts.ensures.grows c.self.inside.named.items c.self.invariant)

pub invariant_of-self-in_err-answers : goal.invariant_of-self-in_err-answers
invariant_of-self-in_err-answers c =
    c.keep_outcomes.ensures.there c.edit_parts.new.self (still_there c.self.inside.replicas c.edit_parts.new.self c.edit_parts.ensures.grows c.self.inside.named.items c.self.invariant)

pub returns-clause-operations : goal.returns-clause-operations
returns-clause-operations c =
    let bs = c.self.inside.replicas in
    let cs = c.edit_parts.new.self in
    c.in_ok-answers.ensures.operations cs
    ∙ ap₂ (λ (x : List (Option Operation)) (y : List (Result Operation PartAnswer)). x ++ map result_ok y)
    (all_stay bs cs c.edit_parts.ensures.grows c.self.inside.named.items c.self.invariant ∙ ap (λ (s : ExchangeState). s.operations) c.self.view_is)
    (c.in_ok-outcomes.ensures.outcomes ∙ ap (λ (s : ExchangeState). outcomes_from 0 c.args.parts.now s.buffers) c.self.view_is)

pub returns-clause-answers : goal.returns-clause-answers
returns-clause-answers c =
    let bs = c.self.inside.replicas in
    let count = sym (length-map c.self.inside.named.items (operation_in bs)) ∙ ap (λ (s : ExchangeState). length s.operations) c.self.view_is in
    c.new.ensures ∙ (c.in_ok-answers.ensures.answers
    ∙ ap₂ (λ n (os : List (Result Operation PartAnswer)). numbered (n + 1) os) count (c.in_ok-outcomes.ensures.outcomes ∙ ap (λ (s : ExchangeState). outcomes_from 0 c.args.parts.now s.buffers) c.self.view_is))

pub returns-in_err-outcomes-clause-grows : goal.returns-in_err-outcomes-clause-grows
returns-in_err-outcomes-clause-grows c = grown c.args.self.now c.self.inside.replicas c.edit_parts.new.self c.self.inside.named.items c.self.view_is c.edit_parts.ensures.grows

pub returns-in_err-answers-clause-grows : goal.returns-in_err-answers-clause-grows
returns-in_err-answers-clause-grows c = grown c.args.self.now c.self.inside.replicas c.edit_parts.new.self c.self.inside.named.items c.self.view_is c.edit_parts.ensures.grows

pub returns-clause-grows : goal.returns-clause-grows
returns-clause-grows c = grown c.args.self.now c.self.inside.replicas c.edit_parts.new.self c.self.inside.named.items c.self.view_is c.edit_parts.ensures.grows
