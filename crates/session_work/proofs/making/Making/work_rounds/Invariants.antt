use Rattle.std.proofs.Common.{length}
use Rattle.session_work.proofs.Rounds.{AtRound}
use Rattle.session_work.proofs.making.Making.work_rounds.Given as goal

abbrev pub invariant-loop-done : goal.invariant-loop-done
invariant-loop-done l = AtRound l.fn.self (length l.ids) l.edits l.self l.done
