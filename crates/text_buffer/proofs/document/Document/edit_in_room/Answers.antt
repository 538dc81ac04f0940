use Rattle.std.proofs.Common.{◌∙◌, [], ◌∷◌, ◌++◌, refl, sym, ap, subst}
use Rattle.op_model.specs.declared.operation.Operation.{Operation}
use Rattle.op_model.specs.Operations.{bytes_of, entries_of}
use Rattle.remote_edit.specs.Fragments.{fragments_of}
use Rattle.text_buffer.specs.Document.{MayGrow}
use Rattle.text_buffer.specs.Drafts.{IsDraft}
use Rattle.text_buffer.proofs.document.Document.edit_in_room.Goals as goal

pub push-requires-clause-grows : goal.push-requires-clause-grows
push-requires-clause-grows g c = subst (MayGrow c.args.self.now) (sym c.in_ok-made.ensures.copy) c.in_ok-edit.ensures.grows

pub push-requires-clause-bytes : goal.push-requires-clause-bytes
push-requires-clause-bytes g c = c.in_ok-edit.ensures.bytes ∙ ap bytes_of (sym c.in_ok-made.ensures.copy)

pub push-requires-clause-entries : goal.push-requires-clause-entries
push-requires-clause-entries g c = c.in_ok-edit.ensures.entries ∙ ap entries_of (sym c.in_ok-made.ensures.copy)

pub push-requires-clause-draft : goal.push-requires-clause-draft
push-requires-clause-draft g c =
    let h = c.args.self.now in
    subst (λ (o : Operation). IsDraft c.in_ok-edit.draft (fragments_of h) (h ++ o ∷ [])) (sym c.in_ok-made.ensures.copy) c.in_ok-edit.ensures.draft

pub returns-clause-made : goal.returns-clause-made
returns-clause-made g c = c.in_ok-made.ensures.made ∙ c.in_ok-edit.ensures.made

pub returns-clause-new : goal.returns-clause-new
returns-clause-new g c =
    c.in_ok-push.ensures.ok ∙ ap (λ (o : Operation). c.args.self.now ++ o ∷ []) (c.in_ok-made.ensures.copy ∙ c.in_ok-edit.ensures.made)

pub same-self-in_err-made : goal.same-self-in_err-made
same-self-in_err-made g c = refl

pub returns-clause-cost : goal.returns-clause-cost
returns-clause-cost g c = c.in_ok-edit.ensures.change c.push.new.steps c.push.ensures.cost

pub returns-in_err-push-clause-cost : goal.returns-in_err-push-clause-cost
returns-in_err-push-clause-cost g c = c.in_ok-edit.ensures.change c.push.new.steps c.push.ensures.cost
