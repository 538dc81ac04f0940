use Rattle.std.proofs.Common.{◌≡◌, ◌≤◌, ◌^◌, [], ◌∷◌, length, refl, ap, subst, sym, ◌∙◌}
use Rattle.std.proofs.lemmas.Result.{IfOk-weaker}
use Rattle.op_model.specs.declared.operation.Operation.{Operation}
use Rattle.op_model.specs.Histories.{base}
use Rattle.op_model.specs.Operations.{pieces_of}
use Rattle.text_buffer.specs.Bases.{first_text}
use Rattle.text_buffer.proofs.document.Document.over.Goals as goal

pub over_base-requires-clause-base : goal.over_base-requires-clause-base
over_base-requires-clause-base c = subst (λ (o : Operation). o ≡ base (first_text (pieces_of o))) (sym c.in_ok-op.ensures) refl

pub over_base-requires-clause-room : goal.over_base-requires-clause-room
over_base-requires-clause-room c = subst (λ (o : Operation). length (first_text (pieces_of o)) ≤ 2 ^ 40) (sym c.in_ok-op.ensures) c.requires

pub returns : goal.returns
returns c = IfOk-weaker c.over_base.result _ _ (λ d e. e ∙ ap (λ (o : Operation). o ∷ []) c.in_ok-op.ensures) c.over_base.ensures
