use Rattle.std.proofs.Common.{◌≡◌, drop}
use Rattle.op_model.specs.Histories.{seen_history}
use Rattle.op_model.specs.Answers.{count_fault}
use Rattle.op_answers.proofs.found.count_fault.Given as goal

abbrev pub invariant-loop-count : goal.invariant-loop-count
invariant-loop-count l = count_fault (seen_history l.applied l.version) (drop l.count-index l.counts) ≡ count_fault (seen_history l.applied l.version) l.counts
