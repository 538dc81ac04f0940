use Rattle.session_work.proofs.Rounds.{number_more}
use Rattle.session_work.proofs.making.ids_to.Goals as goal

pub loop-id-preserved : goal.loop-id-preserved
loop-id-preserved c = number_more c.loop-id.id c.loop-id.ids.items _ c.loop-id.invariant c.in_ok-push.ensures.items
