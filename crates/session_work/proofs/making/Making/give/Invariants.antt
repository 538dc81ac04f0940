use Rattle.session_work.proofs.Rounds.{Going, give_one}
use Rattle.session_work.proofs.making.Making.give.Given as goal

abbrev pub invariant-loop-number : goal.invariant-loop-number
invariant-loop-number l = Going (give_one l.replica) l.fn.self l.self l.numbers l.number-index
