use Rattle.fold_spans.proofs.Thrice as lemmas
use Rattle.fold_spans.proofs.laws.shown_at_most_thrice.Goals as goal

pub returns : goal.returns
returns c = lemmas.shown_at_most_thrice
