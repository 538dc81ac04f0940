use denote.Param.Send.{sendable}
use Rattle.snapshot_pub.proofs.Crossing.{publisher_sent, reader_sent, told_sent}
use Rattle.snapshot_pub.proofs.crosses_threads.Goals as goal

pub sends-requires-send-T : goal.sends-requires-send-T
sends-requires-send-T c κs = search (publisher_sent, sendable) depth 60 fits 20000

pub sends-requires-2-send-T : goal.sends-requires-2-send-T
sends-requires-2-send-T c κs = search (reader_sent, sendable) depth 60 fits 20000

pub sends-requires-3-send-T : goal.sends-requires-3-send-T
sends-requires-3-send-T c κs = search (told_sent, sendable) depth 60 fits 20000
