use denote.Param.Send.{sendable}
use Rattle.std.proofs.Crossing.{crosses}
use Rattle.text_buffer.proofs.Crossing.{buffer_sent}
use Rattle.snapshot_pub.proofs.Crossing.{publisher_sent}
use Rattle.session_tests.proofs.beside.run_both.Goals as goal

pub join-published-requires-send-F : goal.join-published-requires-send-F
join-published-requires-send-F g c κs within = search (publisher_sent, buffer_sent, c.type_bounds.sync-R, crosses, sendable) depth 60 fits 20000
