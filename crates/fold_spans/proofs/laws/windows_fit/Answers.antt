use Rattle.fold_spans.proofs.WindowsFit as lemmas
use Rattle.fold_spans.proofs.laws.windows_fit.Goals as goal

pub returns : goal.returns
returns c = lemmas.windows_fit
