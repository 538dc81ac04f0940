use Rattle.std.proofs.Common.{◌≡◌, ◌∙◌, Bool, true, false, cond, not, List, [], ◌∷◌, refl, ap, Some, None}
use Rattle.lamport_clock.specs.declared.stamp.Lamport.{Lamport}
use Rattle.lamport_clock.specs.Stamps.{same_stamp}
use Rattle.op_model.specs.declared.operation.Operation.{Operation}
use Rattle.op_model.specs.Operations.{stamp_of}
use Rattle.op_model.specs.Histories.{operation_at}
use Rattle.op_model.specs.Steps.{without}
use Rattle.text_buffer.proofs.OnWay.{IsBufferInside-without}
use Rattle.text_buffer.proofs.buffer.Buffer.forget.Goals as goal

none_left : (t : Lamport) (w : List Operation) → operation_at (without t w) t ≡ None
none_left t [] = refl
none_left t (o ∷ w) = go (same_stamp (stamp_of o) t) refl (none_left t w)
  where
    go : (b : Bool) → same_stamp (stamp_of o) t ≡ b → operation_at (without t w) t ≡ None → operation_at (cond (not b) (o ∷ without t w) (without t w)) t ≡ None
    go true q rest = rest
    go false q rest = ap (λ b. cond b (Some o) (operation_at (without t w) t)) q ∙ rest

pub invariant_of-self : goal.invariant_of-self
invariant_of-self c = IsBufferInside-without c.self.inside c.args.t c.remove.new.self c.self.invariant c.remove.ensures.rest

pub returns-clause-gone : goal.returns-clause-gone
returns-clause-gone c = ap (λ w. operation_at w c.args.t) c.remove.ensures.rest ∙ none_left c.args.t _
