use Rattle.std.proofs.Common.{Some, None, sym, ap, refl, ◌∙◌}
use Rattle.op_model.proofs.answers.Under.{under_clean, under_rule, under_shape}
use Rattle.op_answers.specs.Verdicts.{answer_of}
use Rattle.op_answers.proofs.Answering.{answer_by, none_open}
use Rattle.op_answers.proofs.verdict.judge.Goals as goal

pub returns-in-Err : goal.returns-in-Err
returns-in-Err c = sym (under_shape c.args.endings c.args.applied.now c.args.waiting.now c.args.op.now c.into.result (c.in-Err.ensures.fault ∙ ap Some (sym c.into.ensures)))

pub returns-in-Some : goal.returns-in-Some
returns-in-Some c = sym (under_rule c.args.endings c.args.applied.now c.args.waiting.now c.args.op.now c.in-Some.fault c.in_default.ensures.ok (sym c.in-Some.ensures))

pub returns-in-Some-stamp_verdict : goal.returns-in-Some-stamp_verdict
returns-in-Some-stamp_verdict c =
    answer_by c.args.applied.now c.args.waiting.now c.args.op.now None (Some (answer_of c.in-Some-stamp_verdict.verdict)) _ _ (sym c.in_default.ensures.ok) c.in-Some-stamp_verdict.ensures refl refl
    ∙ sym (under_clean c.args.endings c.args.applied.now c.args.waiting.now c.args.op.now (sym c.in_default-rule_fault.ensures))

pub returns-in-Some-cause_verdict : goal.returns-in-Some-cause_verdict
returns-in-Some-cause_verdict c =
    answer_by c.args.applied.now c.args.waiting.now c.args.op.now None None (Some (answer_of c.in-Some-cause_verdict.verdict)) _
    (sym c.in_default.ensures.ok) c.in_default-stamp_verdict.ensures c.in-Some-cause_verdict.ensures refl
    ∙ sym (under_clean c.args.endings c.args.applied.now c.args.waiting.now c.args.op.now (sym c.in_default-rule_fault.ensures))

pub part_fault-requires-clause-closed : goal.part_fault-requires-clause-closed
part_fault-requires-clause-closed c = none_open c.args.applied.now c.args.op.now c.in_default-cause_verdict.ensures

pub returns-in-Some-part_fault : goal.returns-in-Some-part_fault
returns-in-Some-part_fault c =
    answer_by c.args.applied.now c.args.waiting.now c.args.op.now None None None (Some c.in-Some-part_fault.fault)
    (sym c.in_default.ensures.ok) c.in_default-stamp_verdict.ensures c.in_default-cause_verdict.ensures c.in-Some-part_fault.ensures
    ∙ sym (under_clean c.args.endings c.args.applied.now c.args.waiting.now c.args.op.now (sym c.in_default-rule_fault.ensures))

pub returns-in-None : goal.returns-in-None
returns-in-None c =
    answer_by c.args.applied.now c.args.waiting.now c.args.op.now None None None None
    (sym c.in_default.ensures.ok) c.in_default-stamp_verdict.ensures c.in_default-cause_verdict.ensures c.in-None.ensures
    ∙ sym (under_clean c.args.endings c.args.applied.now c.args.waiting.now c.args.op.now (sym c.in_default-rule_fault.ensures))
