use Rattle.std.proofs.Common.{◌∙◌, ◌-◌, List, ℕ, length, drop, ap, sym, subst}
use Rattle.op_wire.specs.Stream.{IsUnfinished}
use Rattle.op_wire.specs.Stages.{Leads, IsSeen}
use Rattle.op_wire.proofs.Stages.{seen_on, unfinished}
use Rattle.op_wire.proofs.rest.Rest.look.Goals as goal

pub invariant_of-self : goal.invariant_of-self
invariant_of-self c =
    let r = c.self.inside in
    let ahead = c.split_at.ensures.back ∙ ap (drop r.at) c.as_slice-bytes.ensures.value in
    let leads = subst (λ (b : List ℕ). Leads r.stage b c.in-Some.stage c.in-Some.rest.now) ahead c.in-Some.ensures.0 in
    subst (λ (b : List ℕ). IsSeen r.bytes.items (length b - length c.in-Some.rest.now) c.in-Some.stage) (sym c.as_slice-bytes.ensures.value) (seen_on r.bytes.items r.at r.stage c.in-Some.stage c.in-Some.rest.now c.self.invariant leads)

pub returns-in-Some-clause-unfinished : goal.returns-in-Some-clause-unfinished
returns-in-Some-clause-unfinished c = λ _.
    let r = c.self.inside in
    let ahead = c.split_at.ensures.back ∙ ap (drop r.at) c.as_slice-bytes.ensures.value in
    let leads = subst (λ (b : List ℕ). Leads r.stage b c.in-Some.stage c.in-Some.rest.now) ahead c.in-Some.ensures.0 in
    subst IsUnfinished c.self.view_is (unfinished r.bytes.items r.at r.stage c.in-Some.stage c.in-Some.rest.now c.self.invariant leads c.in-Some.ensures.1)
