use Rattle.std.proofs.Common.{◌≡◌, ◌++◌, drop}
use Rattle.session_lines.specs.Report.{report_text}
use Rattle.session_work.proofs.replay.write_answers.Given as goal

abbrev pub invariant-loop-answer : goal.invariant-loop-answer
invariant-loop-answer l = l.out.items ++ report_text (drop l.answer-index l.answers) ≡ l.fn.out.items ++ report_text l.answers
