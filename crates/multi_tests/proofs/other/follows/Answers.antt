use Rattle.multi_buffer.specs.State.{history_of}
use Rattle.multi_tests.proofs.Going.{within_from}
use Rattle.multi_tests.proofs.other.follows.Goals as goal

pub go_on-requires : goal.go_on-requires
go_on-requires g c = within_from (history_of 0 c.own_excerpt-multi.result.synced) _ c.other_edited-other.result.history c.own_excerpt-multi.ensures c.other_edited-other.ensures
