use Rattle.fold_spans.proofs.BackAgain as lemmas
use Rattle.fold_spans.proofs.laws.shown_places_come_back.Goals as goal

pub returns : goal.returns
returns c = lemmas.shown_places_come_back
