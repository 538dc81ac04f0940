use denote.Param.Send.{sendable}
use Rattle.multi_buffer.proofs.Crossing.{multi_sent, multi_shared}
use Rattle.multi_buffer.proofs.crosses_threads.Goals as goal

pub sends-requires-send-T : goal.sends-requires-send-T
sends-requires-send-T c κs = search (multi_sent, sendable) depth 60 fits 20000

pub shares-requires-sync-T : goal.shares-requires-sync-T
shares-requires-sync-T c κs = search (multi_shared, sendable) depth 60 fits 20000
