use Rattle.fold_spans.proofs.Fitting as lemmas
use Rattle.fold_spans.proofs.laws.parts_are_made_again.Goals as goal

pub returns : goal.returns
returns c = lemmas.parts_are_made_again
