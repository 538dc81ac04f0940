-- Operations that were refused, as C gets them.
use Rattle.lamport_clock.specs.declared.stamp.Lamport.{Lamport}
use Rattle.op_model.specs.declared.faults.OpFault.{OpFault}
use Rattle.c_values.specs.declared.refusals.Refusal.{Refusal}
use Rattle.c_values.specs.Answers.{op_refusal}
use Rattle.c_values.specs.Stamps.{stamp}

-- the refusal of the operation of a stamp, with its fault
abbrev pub refusal : Lamport × OpFault → Refusal
refusal r = record { stamp = stamp r.0; why = op_refusal r.1 }
