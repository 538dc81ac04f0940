use Rattle.std.proofs.Common.{sym}
use Rattle.std.proofs.lemmas.Iterator.Adapters.{position_from-zero}
use Rattle.op_model.specs.Histories.{seen_history}
use Rattle.op_model.specs.Shown.{full}
use Rattle.op_model.specs.Edits.{is_inside}
use Rattle.op_answers.proofs.ranges.inside_char.Goals as goal

pub loop-i-init : goal.loop-i-init
loop-i-init c = λ h t l o. sym (position_from-zero (is_inside (full (seen_history h c.args.version.now))) c.args.pieces.now)
