use Rattle.std.proofs.Common.{◌≤◌, ◌^◌, ◌∙◌, ℕ, List, [], ◌∷◌, length, refl, ap, subst, sym}
use Rattle.std.specs.Str.{IsUtf8}
use Rattle.op_model.specs.declared.operation.Operation.{Operation}
use Rattle.op_model.specs.Histories.{base}
use Rattle.op_model.specs.Operations.{pieces_of}
use Rattle.text_buffer.specs.Bases.{first_text}
use Rattle.text_buffer.specs.Document.{IsContent}
use Rattle.text_buffer.proofs.Opened.{IsDocumentInside-opened}
use Rattle.text_buffer.proofs.document.Document.over_base.Goals as goal

pub over-requires : goal.over-requires
over-requires c = subst (λ (t : List ℕ). length t ≤ 2 ^ 40) (sym c.first_text-shown.ensures) c.requires.room

pub invariant_of-result : goal.invariant_of-result
invariant_of-result c =
    let t = first_text (pieces_of c.args.op) in
    IsDocumentInside-opened _ t (subst IsUtf8 c.first_text-shown.ensures c.first_text-shown.utf8) c.requires.room (c.in_ok-operations.ensures ∙ ap (λ (o : Operation). o ∷ []) c.requires.base) refl (c.in_ok-version.ensures t)
    (subst (λ (u : List ℕ). IsContent c.in_ok-content.content (base u ∷ [])) c.first_text-shown.ensures c.in_ok-content.ensures) (ap length c.first_text-shown.ensures) refl
