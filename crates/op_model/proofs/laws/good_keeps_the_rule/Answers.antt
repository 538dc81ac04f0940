use Rattle.op_model.proofs.MainLaws.{good_keeps_the_rule}
use Rattle.op_model.proofs.laws.good_keeps_the_rule.Goals as goal

pub returns : goal.returns
returns c = good_keeps_the_rule
