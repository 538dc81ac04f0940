use denote.Struct.Struct.{exits_of}
use denote.Struct.Owning.{shape, fields, to}
use denote.Param.Send.{IsSend, AllSend, owning_send, struct_send, sendable}
use Rattle.std_alloc.proofs.SendSync.{quiet}
use Rattle.std_heap.proofs.Global.TheSendSync as handle
use Rattle.buffer_handles.specs.contracts.replica.Replica as held
use Rattle.buffer_handles.proofs.Crossing.{replica_sent}
use Rattle.buffer_handles.specs.contracts.buffer_handle.BufferHandle.{the_type, the_row}
use Rattle.buffer_handles.proofs.Crossing.{keyless_inside}

pub send : IsSend the_row
send =
    let all : AllSend (fields the_type) = (search sendable, (handle.the_field_send, tt)) in
    owning_send the_type all (λ d. keyless_inside held.the_row replica_sent d.alloc d.at d.inside)
    (λ k. quiet (to the_type) (exits_of k (fields the_type)) ((struct_send (shape the_type) all).leaving k))
