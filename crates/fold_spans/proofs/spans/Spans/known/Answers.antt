use Rattle.std.proofs.Common.{◌<◌, ◌^◌, subst}
use Rattle.std.specs.Prelude.{List}
use Rattle.fold_spans.specs.Spans.{text_sum, shown_sum}
use Rattle.fold_spans.specs.declared.span.Span.{Span}
use Rattle.fold_spans.proofs.Sums.{lengths_fit}
use Rattle.fold_spans.proofs.spans.Spans.known.Goals as goal

pub returns-clause-text : goal.returns-clause-text
returns-clause-text c = subst (λ (ss : List Span). text_sum ss < 2 ^ 64) c.self.view_is (lengths_fit c.self.inside.tree.items c.known.ensures.fits).text

pub returns-clause-shown : goal.returns-clause-shown
returns-clause-shown c = subst (λ (ss : List Span). shown_sum ss < 2 ^ 64) c.self.view_is (lengths_fit c.self.inside.tree.items c.known.ensures.fits).shown
