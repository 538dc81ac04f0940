-- What is kept of an operation that was refused while settling.
use Rattle.lamport_clock.specs.declared.stamp.Lamport.{Lamport}
use Rattle.op_model.specs.declared.faults.OpFault.{OpFault}
use Rattle.text_buffer.specs.declared.outcomes.Refused.{Refused}

-- its stamp, and its fault
abbrev pub pair_of : Refused → Lamport × OpFault
pair_of r = (r.stamp, r.fault)
