use denote.Param.Send.{sendable}
use Rattle.text_buffer.proofs.Crossing.{snapshot_sent, snapshot_shared}
use Rattle.buffer_handles.proofs.Crossing.{replica_sent, replica_shared}
use Rattle.buffer_handles.proofs.crosses_threads.Goals as goal

pub sends-requires-send-T : goal.sends-requires-send-T
sends-requires-send-T c κs = search (replica_sent, sendable) depth 60 fits 20000

pub shares-requires-sync-T : goal.shares-requires-sync-T
shares-requires-sync-T c κs = search (replica_shared, sendable) depth 60 fits 20000

pub sends-requires-2-send-T : goal.sends-requires-2-send-T
sends-requires-2-send-T c κs = search (snapshot_sent, sendable) depth 60 fits 20000

pub shares-requires-2-sync-T : goal.shares-requires-2-sync-T
shares-requires-2-sync-T c κs = search (snapshot_shared, sendable) depth 60 fits 20000
