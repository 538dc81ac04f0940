-- A replica may go to another thread, and be shared with one, and so may handles go to another thread.
use mir.Raw.{raw}
use base.Shift.{Keyless}
use denote.Memory.{lone}
use denote.Param.Send.{IsSend, IsSync, sendable}
use denote.Param.SendFields.{declared_send, declared_sync}
use denote.RattleType.{RattleType}
use denote.RawPtr.{Ptr}
use Rattle.std.specs.Prelude.{Option, Some, None}
use Rattle.std.specs.Global.{Global}
use Rattle.std.proofs.Crossing as heap
use Rattle.std.proofs.Crossing.{crosses}
use Rattle.std.proofs.MapsCrossing as maps
use Rattle.std_alloc.proofs.SendSync.{lies}
use Rattle.text_buffer.proofs.Crossing.{buffer_sent, buffer_shared}
use Rattle.buffer_handles.specs.contracts.replica.Replica as replica
use Rattle.buffer_handles.specs.Handles.{owns_inside}

ruleset plain = (maps.crosses, crosses, sendable)

pub replica_sent : IsSend replica.the_row
replica_sent = declared_send replica.the_type (buffer_sent, (search plain depth 60 fits 20000, tt))

pub replica_shared : IsSync replica.the_row
replica_shared = declared_sync replica.the_type (buffer_shared, (search plain depth 60 fits 20000, tt))

-- what a handle owns, if values of its type may be sent
module _ (R : RattleType) (sent : IsSend R) where
  pub keyless_inside : (alloc : Global) → (p : Ptr) → (inside : Option R.Denot) → Keyless (owns_inside R alloc p inside)
  keyless_inside alloc p None = λ _. tt
  keyless_inside alloc p (Some x) = (lies R sent p x, heap.frees.frees alloc (raw (lone R.mir)) p)
