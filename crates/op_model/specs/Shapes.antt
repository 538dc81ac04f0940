-- A fault of an operation alone, as one of the faults of a taken operation.
use Rattle.op_model.specs.declared.faults.OpFault.{OpFault}
use Rattle.op_model.specs.declared.faults.OpFault.TheVariants as taken
use Rattle.op_model.specs.declared.shapes.ShapeFault.{ShapeFault}
use Rattle.op_model.specs.declared.shapes.ShapeFault.TheVariants.{BadStamp, NoBase, TextLimit, Reversed, Overlap}

abbrev pub op_fault : ShapeFault → OpFault
op_fault BadStamp = taken.BadStamp
op_fault NoBase = taken.NoBase
op_fault (TextLimit total) = taken.TextLimit total
op_fault (Reversed i) = taken.Reversed i
op_fault (Overlap i) = taken.Overlap i
