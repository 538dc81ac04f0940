use Rattle.std.proofs.Common.{sym, subst}
use Rattle.std.proofs.lemmas.Result.{IfOk-weaker}
use Rattle.op_model.specs.declared.operation.Operation.{Operation}
use Rattle.text_buffer.specs.Document.{IsWithOperation, MayAdd}
use Rattle.text_buffer.proofs.content.Content.with_operation.Goals as goal

pub with_edit-requires : goal.with_edit-requires
with_edit-requires c = subst (MayAdd c.args.self) c.in-Edit.is c.requires

pub returns-in-Edit : goal.returns-in-Edit
returns-in-Edit c = IfOk-weaker c.with_edit.result _ _ (λ x f. subst (λ (o : Operation). IsWithOperation c.args.self o x) (sym c.in-Edit.is) f) c.with_edit.ensures

pub with_undo-requires : goal.with_undo-requires
with_undo-requires c = subst (MayAdd c.args.self) c.in-Undo.is c.requires

pub returns-in-Undo : goal.returns-in-Undo
returns-in-Undo c = IfOk-weaker c.with_undo.result _ _ (λ x f. subst (λ (o : Operation). IsWithOperation c.args.self o x) (sym c.in-Undo.is) f) c.with_undo.ensures
