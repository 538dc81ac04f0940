use Rattle.session_work.proofs.Rounds.{number_more}
use Rattle.session_work.proofs.making.numbers_to.Goals as goal

pub loop-number-preserved : goal.loop-number-preserved
loop-number-preserved c = number_more c.loop-number.number c.loop-number.numbers.items _ c.loop-number.invariant c.in_ok-push.ensures.items
