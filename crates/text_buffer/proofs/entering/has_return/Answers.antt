use Rattle.std.proofs.Common.{◌∙◌, ap, arith}
use Rattle.std.proofs.lemmas.Str.Pattern.{contains_char}
use Rattle.std.specs.List.{list_any}
use Rattle.op_model.specs.Rules.{is_return}
use Rattle.text_buffer.proofs.LineEndings.{return_found}
use Rattle.text_buffer.proofs.entering.has_return.Goals as goal

pub returns : goal.returns
returns c =
    let k = contains_char 13 c.as_str.result.now c.contains.result c.contains.ensures.cases (omega arith) in
    return_found c.as_str.result.now c.contains.result k.0 k.1 ∙ ap (list_any is_return) c.as_str.ensures
