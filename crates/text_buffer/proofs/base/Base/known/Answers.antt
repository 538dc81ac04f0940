use Rattle.std.proofs.Common.{List, [], ◌∷◌, subst}
use Rattle.std.specs.Str.{IsUtf8}
use Rattle.op_model.specs.declared.operation.Operation.{Operation}
use Rattle.op_model.specs.Histories.{base}
use Rattle.op_model.specs.Rules.{KeepsRule}
use Rattle.text_buffer.specs.Buffer.{BaseText}
use Rattle.text_buffer.specs.Document.{IsBufferHistory}
use Rattle.text_buffer.proofs.Opened.{base_utf8}
use Rattle.text_buffer.proofs.base.Base.known.Goals as goal

pub returns-clause-utf8 : goal.returns-clause-utf8
returns-clause-utf8 c = subst (λ (b : BaseText). IsUtf8 b.text) c.self.view_is (base_utf8 _ (subst IsBufferHistory c.self.invariant.alone c.known.ensures))

pub returns-clause-rule : goal.returns-clause-rule
returns-clause-rule c =
    subst (λ (b : BaseText). KeepsRule b.endings (base b.text ∷ [])) c.self.view_is
    (subst (λ (h : List Operation). KeepsRule c.self.inside.endings h) c.self.invariant.alone c.self.invariant.rule)
