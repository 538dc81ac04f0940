use Rattle.std.proofs.Common.{◌≡◌, ◌++◌, drop, map}
use Rattle.op_model.specs.declared.operation.UndoCount.{UndoCount}
use Rattle.text_buffer.proofs.content.edits_of.Given as goal

abbrev pub invariant-loop-count : goal.invariant-loop-count
invariant-loop-count l = record {
  edits : l.edits.items ++ map (λ (c : UndoCount). c.edit) (drop l.count-index l.counts) ≡ map (λ (c : UndoCount). c.edit) l.counts;
}
