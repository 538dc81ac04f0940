use Rattle.std.proofs.Common.{◌≡◌, ◌+◌, ◌<◌, ◌++◌, length, get_or, refl, ap, sym, ◌∙◌, arith}
use Rattle.std.proofs.lemmas.List.{length-set}
use Rattle.session_lines.specs.Report.{report_text}
use Rattle.session_work.specs.Parts.{after_part, outcomes_from, part_outcome, part_settled}
use Rattle.session_work.proofs.Growth.{all_themselves, all_trans, set_grows}
use Rattle.session_work.proofs.Parts.{all_edited, more_outcomes, more_settled, one_edited, outcomes_done, settled_done}
use Rattle.session_work.proofs.replicas.edit_each.Goals as goal

pub loop-index-init : goal.loop-index-init
loop-index-init c = record {
  many = refl;
  few = c.requires;
  after = refl;
  outcomes = ap (λ os. os ++ outcomes_from 0 c.args.parts.now c.args.replicas.now) c.in_ok-outcomes.ensures.items;
  settled = refl;
  grows = all_themselves c.args.replicas.now;
}

pub loop-index-preserved : goal.loop-index-preserved
loop-index-preserved c =
    let gs = c.args.parts.now in
    let i = c.loop-index.index in
    let bs = c.loop-index.replicas in
    let b = get_or bs i c.index-replicas-index.result in
    let is : b ≡ get_or bs i b = ap (get_or bs i) c.index-replicas-index.is in
    let inv = c.loop-index.invariant in
    let pieces = c.pieces_of-pieces.ensures in
    let here : i < length bs = omega arith in
    let after = c.in_ok-outcome.ensures.after ∙ ap (λ o. after_part (part_outcome o b) b) pieces in
    let settled = c.in_ok-outcome.ensures.report ∙ ap (λ o. c.loop-index.out.items ++ report_text (part_settled (part_outcome o b) b)) pieces in
    let outcome = c.in_ok-outcome.ensures.outcome ∙ ap (λ o. part_outcome o b) pieces in
    record {
      many = length-set bs i c.edit_part.new.self ∙ inv.many;
      few = inv.few;
      after = one_edited gs i bs b c.edit_part.new.self _ here is after inv.after;
      outcomes = more_outcomes gs i bs b c.edit_part.new.self c.in_ok-outcome.outcome c.loop-index.outcomes.items c.push.new.self.items _ here is outcome c.in_ok-push.ensures.items inv.outcomes;
      settled = more_settled gs i bs b c.edit_part.new.self c.loop-index.out.items c.edit_part.new.settled.items _ here is settled inv.settled;
      grows = all_trans c.args.replicas.now bs _ inv.grows (set_grows bs bs i b c.edit_part.new.self refl is c.edit_part.ensures.id c.edit_part.ensures.grows);
    }

pub returns-in_err-outcomes-clause-grows : goal.returns-in_err-outcomes-clause-grows
returns-in_err-outcomes-clause-grows c = all_themselves c.args.replicas.now

pub returns-in_err-outcome-clause-grows : goal.returns-in_err-outcome-clause-grows
returns-in_err-outcome-clause-grows c =
    let bs = c.loop-index.replicas in
    let i = c.loop-index.index in
    let n = c.edit_part.new.self in
    all_trans c.args.replicas.now bs _ c.loop-index.invariant.grows (set_grows bs bs i (get_or bs i c.index-replicas-index.result) n refl (ap (get_or bs i) c.index-replicas-index.is) c.edit_part.ensures.id c.edit_part.ensures.grows)

pub returns-in_err-push-clause-grows : goal.returns-in_err-push-clause-grows
returns-in_err-push-clause-grows c =
    let bs = c.loop-index.replicas in
    let i = c.loop-index.index in
    let n = c.edit_part.new.self in
    all_trans c.args.replicas.now bs _ c.loop-index.invariant.grows (set_grows bs bs i (get_or bs i c.index-replicas-index.result) n refl (ap (get_or bs i) c.index-replicas-index.is) c.edit_part.ensures.id c.edit_part.ensures.grows)

pub returns-clause-after : goal.returns-clause-after
returns-clause-after c = all_edited c.args.parts.now c.loop-index.index c.loop-index.replicas _ (omega arith) c.loop-index.invariant.after

pub returns-clause-outcomes : goal.returns-clause-outcomes
returns-clause-outcomes c = outcomes_done c.args.parts.now c.loop-index.index c.loop-index.replicas _ _ (omega arith) c.loop-index.invariant.outcomes

pub returns-clause-report : goal.returns-clause-report
returns-clause-report c = settled_done c.args.parts.now c.loop-index.index c.loop-index.replicas _ _ (omega arith) c.loop-index.invariant.settled
