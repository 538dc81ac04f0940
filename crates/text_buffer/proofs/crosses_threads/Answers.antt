use denote.Param.Send.{sendable}
use Rattle.text_buffer.proofs.Crossing.{buffer_sent, buffer_shared, snapshot_sent, snapshot_shared, base_sent, base_shared}
use Rattle.text_buffer.proofs.crosses_threads.Goals as goal

pub sends-requires-send-T : goal.sends-requires-send-T
sends-requires-send-T c κs = search (buffer_sent, sendable) depth 60 fits 20000

pub shares-requires-sync-T : goal.shares-requires-sync-T
shares-requires-sync-T c κs = search (buffer_shared, sendable) depth 60 fits 20000

pub sends-requires-2-send-T : goal.sends-requires-2-send-T
sends-requires-2-send-T c κs = search (snapshot_sent, sendable) depth 60 fits 20000

pub shares-requires-2-sync-T : goal.shares-requires-2-sync-T
shares-requires-2-sync-T c κs = search (snapshot_shared, sendable) depth 60 fits 20000

pub sends-requires-3-send-T : goal.sends-requires-3-send-T
sends-requires-3-send-T c κs = search (base_sent, sendable) depth 60 fits 20000

pub shares-requires-3-sync-T : goal.shares-requires-3-sync-T
shares-requires-3-sync-T c κs = search (base_shared, sendable) depth 60 fits 20000
