use Rattle.fold_spans.proofs.Local as lemmas
use Rattle.fold_spans.proofs.laws.marks_are_local.Goals as goal

pub returns : goal.returns
returns c = lemmas.marks_are_local
