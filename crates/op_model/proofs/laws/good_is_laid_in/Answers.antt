use Rattle.op_model.proofs.MainLaws.{good_is_laid_in}
use Rattle.op_model.proofs.laws.good_is_laid_in.Goals as goal

pub returns : goal.returns
returns c = good_is_laid_in
