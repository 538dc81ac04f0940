use Rattle.std.proofs.Common.{ap, ◌∙◌}
use Rattle.fold_spans.specs.Spans.{shown_sum}
use Rattle.fold_spans.specs.declared.lengths.Lengths.{Lengths}
use Rattle.fold_spans.proofs.Sums.{whole}
use Rattle.fold_spans.proofs.spans.Spans.shown_len.Goals as goal

pub returns : goal.returns
returns c = ap (λ (x : Lengths). x.shown) (c.summary.ensures ∙ whole c.self.inside.tree.items) ∙ ap shown_sum c.self.view_is
