-- What the result of an edit says of the history and of the steps of a buffer.
use Rattle.std.proofs.Common.{◌≡◌, ◌⊎◌, inl, inr, ◌∷◌, [], ◌++◌, List, sym, ap, ◌∙◌, cond, None, Some, Option, is_some, Result, Ok, Err, IfErr, IfOk, OnOk}
use Rattle.op_model.specs.declared.operation.Piece.{Piece}
use Rattle.op_model.specs.declared.operation.Operation.{Operation}
use Rattle.op_model.specs.declared.faults.EditFault.{EditFault}
use Rattle.op_model.specs.declared.faults.EditFault.TheVariants.{OutOfMemory}
use Rattle.op_model.specs.Steps.Step.{Edits}
use Rattle.op_model.specs.Steps.{with_applied}
use Rattle.text_buffer.specs.Buffer.{BufferState, after_call, edit_fault, edit_of, state, with_state}
use Rattle.text_buffer.specs.EditResult.{IsEditResult}

-- the call of an edit, by whether it meets a fault
by_fault : (b : BufferState) (ps : List Piece) (o : Option EditFault) → edit_fault b ps ≡ o
    → after_call (Edits ps) b ≡ with_state (cond (is_some o) (state b) (with_applied (edit_of b ps) (state b))) b
by_fault b ps o e = ap (λ (f : Option EditFault). with_state (cond (is_some f) (state b) (with_applied (edit_of b ps) (state b))) b) e

module _ (b n : BufferState) (ps : List Piece) where
  pub history_grows : (r : Result Operation EditFault) → IsEditResult b n ps r → IfOk r (λ op. n.history ≡ b.history ++ op ∷ [])
  history_grows (Ok op) h = ap (λ (x : BufferState). x.history) h.new ∙ ap (λ op. b.history ++ op ∷ []) (sym h.made)
  history_grows (Err e) h = tt

  pub is_step : (r : Result Operation EditFault) → IsEditResult b n ps r → OnOk r (n ≡ after_call (Edits ps) b)
  is_step (Ok op) h = h.new ∙ sym (by_fault b ps None h.ok)
  is_step (Err e) h = tt

  unless_memory : (e : EditFault) → n ≡ b → (edit_fault b ps ≡ Some e) ⊎ ((edit_fault b ps ≡ None) × (e ≡ OutOfMemory)) → (n ≡ after_call (Edits ps) b) ⊎ (e ≡ OutOfMemory)
  unless_memory e k (inl f) = inl (k ∙ sym (by_fault b ps (Some e) f))
  unless_memory e k (inr f) = inr f.1

  pub is_step_or_memory : (r : Result Operation EditFault) → IsEditResult b n ps r → IfErr r (λ e. (n ≡ after_call (Edits ps) b) ⊎ (e ≡ OutOfMemory))
  is_step_or_memory (Ok op) h = tt
  is_step_or_memory (Err e) h = unless_memory e h.err h.fault
