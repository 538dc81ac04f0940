use denote.Param.Send.{sendable}
use Rattle.std.proofs.Crossing.{crosses}
use Rattle.text_buffer.proofs.Crossing.{snapshot_sent}
use Rattle.snapshot_pub.proofs.Crossing.{publisher_sent}
use Rattle.bench.proofs.publish.publish_beside.Goals as goal

pub join-count-requires-send-F : goal.join-count-requires-send-F
join-count-requires-send-F g c κs within = search (publisher_sent, snapshot_sent, c.type_bounds.sync-R, crosses, sendable) depth 60 fits 20000
