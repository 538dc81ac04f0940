-- What a handle owns: nothing where its pointer is null, else the same as a box.
use Rattle.std.specs.Prelude.{◌≡◌, Option, Some, None}
use base.Fml.{Fml, ftrue, fex}
use base.Stored.{Coded}
use denote.RattleType.{RattleType}
use denote.RawPtr.{Ptr, null_ptr}
use Rattle.std.specs.Box.Ownership.{box_owns}
use Rattle.std.specs.Global.{Global}
use Rattle.std.specs.Coded.{coded_option}
use Rattle.std_heap.specs.contracts.GlobalAllocator.TheImpl.{ghosts}
use Rattle.text_buffer.specs.contracts.snapshot.Snapshot as Snapshot
use Rattle.buffer_handles.specs.contracts.replica.Replica as Replica

module _ (R : RattleType) where
  abbrev pub owns_inside : Global → Ptr → Option R.Denot → Fml
  owns_inside alloc p None = fex (p ≡ null_ptr) (λ _. ftrue)
  owns_inside alloc p (Some x) = box_owns (ghosts.dealloc_token alloc) R p x

-- a handle of a replica

abbrev pub owns_replica : Global → Ptr → Option Replica.the_row.Denot → Fml
owns_replica = owns_inside Replica.the_row

abbrev pub replica_coded : Coded (Option Replica.the_row.Denot)
replica_coded = coded_option Replica.the_row.coded

-- a handle of a snapshot

abbrev pub owns_snapshot : Global → Ptr → Option Snapshot.the_row.Denot → Fml
owns_snapshot = owns_inside Snapshot.the_row

abbrev pub snapshot_coded : Coded (Option Snapshot.the_row.Denot)
snapshot_coded = coded_option Snapshot.the_row.coded
