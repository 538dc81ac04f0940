use denote.Param.Send.{sendable}
use Rattle.fold_map.proofs.Crossing.{map_sent, map_shared}
use Rattle.fold_map.proofs.crosses_threads.Goals as goal

pub sends-requires-send-T : goal.sends-requires-send-T
sends-requires-send-T c κs = search (map_sent, sendable) depth 60 fits 20000

pub shares-requires-sync-T : goal.shares-requires-sync-T
shares-requires-sync-T c κs = search (map_shared, sendable) depth 60 fits 20000
