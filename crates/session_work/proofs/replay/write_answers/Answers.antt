use Rattle.std.proofs.Common.{◌++◌, ap, ◌∙◌, arith}
use Rattle.session_lines.specs.Report.{line_text}
use Rattle.session_lines.proofs.Reports.{more_lines, all_lines}
use Rattle.session_work.proofs.replay.write_answers.Goals as goal

pub loop-answer-preserved : goal.loop-answer-preserved
loop-answer-preserved c =
    more_lines c.args.answers.now c.loop-answer.answer-index c.answer-item.result _ _ _ (omega arith) c.loop-answer.invariant
    (c.in_ok-write_line.ensures.ok ∙ ap (λ b. c.loop-answer.out.items ++ line_text b) c.answer-item.is)

pub returns : goal.returns
returns c = all_lines c.args.answers.now c.loop-answer.answer-index _ _ (omega arith) c.loop-answer.invariant
