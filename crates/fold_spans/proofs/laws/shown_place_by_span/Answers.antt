use Rattle.fold_spans.proofs.BySpan as lemmas
use Rattle.fold_spans.proofs.laws.shown_place_by_span.Goals as goal

pub returns : goal.returns
returns c = lemmas.shown_place_by_span
