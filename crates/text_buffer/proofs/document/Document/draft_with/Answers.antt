use Rattle.std.proofs.Common.{[], ◌∷◌, ◌++◌, sym, subst}
use Rattle.std.proofs.lemmas.Result.{IfOk-weaker}
use Rattle.op_model.specs.declared.operation.Operation.{Operation}
use Rattle.remote_edit.specs.Fragments.{fragments_of}
use Rattle.text_buffer.specs.Document.{MayGrow}
use Rattle.text_buffer.specs.Drafts.{IsDraft}
use Rattle.text_buffer.proofs.document.Document.draft_with.Goals as goal

pub draft_with_edit-requires : goal.draft_with_edit-requires
draft_with_edit-requires c = subst (MayGrow c.args.self.now) c.in-Edit.is c.requires

pub returns-in-Edit : goal.returns-in-Edit
returns-in-Edit c = IfOk-weaker c.draft_with_edit.result _ _ (λ x f. subst (λ (o : Operation). IsDraft x (fragments_of c.args.self.now) (c.args.self.now ++ o ∷ [])) (sym c.in-Edit.is) f) c.draft_with_edit.ensures
