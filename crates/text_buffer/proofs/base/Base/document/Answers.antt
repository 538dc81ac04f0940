use Rattle.std.proofs.Common.{◌∙◌, [], ◌∷◌, ap}
use Rattle.std.proofs.lemmas.Result.{IfOk-weaker}
use Rattle.op_model.specs.Histories.{base}
use Rattle.text_buffer.specs.Buffer.{BaseText}
use Rattle.text_buffer.proofs.base.Base.document.Goals as goal

pub returns : goal.returns
returns c = IfOk-weaker c.share.result _ _ (λ d e. e ∙ c.self.invariant.alone ∙ ap (λ (b : BaseText). base b.text ∷ []) c.self.view_is) c.share.ensures
