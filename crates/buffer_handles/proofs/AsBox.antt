-- A handle that is open and its parts own what a box at the same types owns.
use mathlib.Core.List.{[]}
use mir.Syntax.{impl, tnil, dnil}
use denote.Param.Laws.{Laws}
use denote.RattleType.{RattleType}
use denote.Signature.{Slot, plain}
use Rattle.std_alloc.proofs.BoxSteps.Form.{Bx}
use Rattle.std_heap.specs.contracts.Global as Heap
use Rattle.std_heap.specs.contracts.GlobalAllocator.TheImpl.{ghosts, dict}
use Rattle.std_heap.proofs.Global.TheLaws as heap
use Rattle.text_buffer.specs.contracts.snapshot.Snapshot as Snapshot
use Rattle.text_buffer.proofs.snapshot.Snapshot.TheLaws as snapshot_laws
use Rattle.buffer_handles.specs.contracts.replica.Replica as Replica
use Rattle.buffer_handles.proofs.replica.Replica.TheLaws as replica_laws
use Rattle.buffer_handles.specs.contracts.parts.Parts as Parts

module _ (R : RattleType) (laws : Laws R) where
  abbrev pub box_of : Bx
  box_of = record { row = R; laws = laws; al = record { row = Heap.the_row; laws = heap.the_row_laws; g = ghosts; d = dict; drops = impl [] tnil dnil } }

abbrev pub parts_of : RattleType → Slot 0
parts_of R = plain (λ _. Parts.the_row R Heap.the_row ghosts)

abbrev pub replica_box : Bx
replica_box = box_of Replica.the_row replica_laws.the_row_laws

abbrev pub snapshot_box : Bx
snapshot_box = box_of Snapshot.the_row snapshot_laws.the_row_laws
