-- Histories that go on.
use Rattle.std.proofs.Common.{◌≡◌, [], ◌∷◌, inl, sym, subst}
use Rattle.op_model.specs.declared.operation.Operation.{Operation}
use Rattle.op_model.specs.Histories.{History}
use Rattle.op_model.specs.Steps.Step.{Takes}
use Rattle.text_buffer.specs.Buffer.{BufferState, after_take}
use Rattle.text_buffer.specs.Document.{IsFront}
use Rattle.text_buffer.proofs.Fronts.{front_itself}
use Rattle.text_buffer.proofs.Reached.{reached_front}

pub same_front : (h g : History) → h ≡ g → IsFront h g
same_front h g e = subst (IsFront h) e (front_itself h)

-- what is the same now as a history that goes on
pub front_of_same : (h k g : History) → h ≡ k → IsFront k g → IsFront h g
front_of_same h k g e f = subst (λ (x : History). IsFront x g) (sym e) f

pub taken_front : (b n : BufferState) (op : Operation) → n ≡ after_take b op → IsFront b.history n.history
taken_front b n op e = reached_front b n [] (inl (Takes op ∷ [], e))
