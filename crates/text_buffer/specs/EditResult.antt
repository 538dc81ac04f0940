-- What an edit of a buffer comes to, for private clauses.
use Rattle.std.specs.Prelude.{◌≡◌, ◌⊎◌, List, None, Some, Result, IfErr, IfOk, OnErr, OnOk}
use Rattle.op_model.specs.declared.operation.Piece.{Piece}
use Rattle.op_model.specs.declared.operation.Operation.{Operation}
use Rattle.op_model.specs.declared.faults.EditFault.{EditFault}
use Rattle.op_model.specs.declared.faults.EditFault.TheVariants.{OutOfMemory}
use Rattle.op_model.specs.Edits.{replace_ranges}
use Rattle.op_model.specs.Rules.{pieces_under}
use Rattle.op_model.specs.Shown.{text}
use Rattle.text_buffer.specs.Buffer.{BufferState, after_edit, edit_fault, edit_of}

-- an edit of b by the changes answered r, and the buffer is n then
pub record IsEditResult (b n : BufferState) (changes : List Piece) (r : Result Operation EditFault) : Type 0 where
  pub ok : OnOk r (edit_fault b changes ≡ None)
  pub made : IfOk r (λ op. op ≡ edit_of b changes)
  pub new : OnOk r (n ≡ after_edit b changes)
  pub ranges : OnOk r (text n.history ≡ replace_ranges (pieces_under b.endings changes) (text b.history))
  pub fault : IfErr r (λ e. (edit_fault b changes ≡ Some e) ⊎ ((edit_fault b changes ≡ None) × (e ≡ OutOfMemory)))
  pub err : OnErr r (n ≡ b)
