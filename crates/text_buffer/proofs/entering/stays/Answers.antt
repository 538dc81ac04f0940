use Rattle.std.proofs.Common.{◌∙◌, ap, arith}
use Rattle.std.proofs.lemmas.Str.Pattern.{contains_char}
use Rattle.op_model.specs.Rules.{text_under}
use Rattle.op_model.specs.declared.endings.Endings.{Endings}
use Rattle.text_buffer.proofs.LineEndings.{stays_unfound}
use Rattle.text_buffer.proofs.entering.stays.Goals as goal

pub returns-in-Lf-clause-stays : goal.returns-in-Lf-clause-stays
returns-in-Lf-clause-stays c e =
    ap (λ (x : Endings). text_under x c.args.text.now) c.in-Lf.is
    ∙ stays_unfound c.args.text.now c.contains.result (contains_char 13 c.args.text.now c.contains.result c.contains.ensures.cases (omega arith)).1 e
