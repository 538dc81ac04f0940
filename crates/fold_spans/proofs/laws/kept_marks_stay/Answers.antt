use Rattle.fold_spans.proofs.Kept as lemmas
use Rattle.fold_spans.proofs.laws.kept_marks_stay.Goals as goal

pub returns : goal.returns
returns c = lemmas.kept_marks_stay
