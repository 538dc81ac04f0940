use Rattle.std.proofs.Common.{refl, sym, ◌∙◌, true, false}
use Rattle.op_answers.proofs.Answering.{stamp_by}
use Rattle.op_answers.proofs.verdict.stamp_verdict.Goals as goal

pub returns-then-is_repeat : goal.returns-then-is_repeat
returns-then-is_repeat c =
    stamp_by c.args.applied.now c.args.waiting.now c.args.op.now c.stamp-stamp.result _ _ true _ c.requires.lawful c.requires.waiting
    c.stamp-stamp.ensures c.applied_at-applied_one.ensures c.get-waiting_one.ensures (sym c.if-is_repeat.true ∙ c.is_repeat.ensures) refl

pub returns-then-is_conflict : goal.returns-then-is_conflict
returns-then-is_conflict c =
    stamp_by c.args.applied.now c.args.waiting.now c.args.op.now c.stamp-stamp.result _ _ false true c.requires.lawful c.requires.waiting
    c.stamp-stamp.ensures c.applied_at-applied_one.ensures c.get-waiting_one.ensures (sym c.if-is_repeat.false ∙ c.is_repeat.ensures) (sym c.if-is_conflict.true ∙ c.is_conflict.ensures)

pub returns : goal.returns
returns c =
    stamp_by c.args.applied.now c.args.waiting.now c.args.op.now c.stamp-stamp.result _ _ false false c.requires.lawful c.requires.waiting
    c.stamp-stamp.ensures c.applied_at-applied_one.ensures c.get-waiting_one.ensures (sym c.if-is_repeat.false ∙ c.is_repeat.ensures) (sym c.if-is_conflict.false ∙ c.is_conflict.ensures)
