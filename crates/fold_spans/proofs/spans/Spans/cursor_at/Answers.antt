use Rattle.std.proofs.Common.{ap, ◌≤◌, length, subst, sym, List, ◌∙◌}
use Rattle.fold_spans.specs.declared.span.Span.{Span}
use Rattle.fold_spans.proofs.Touches.{cursor_index}
use Rattle.fold_spans.proofs.spans.Spans.cursor_at.Goals as goal

pub returns-clause-index : goal.returns-clause-index
returns-clause-index c =
    cursor_index c.self.inside.tree.items c.in-Ok.cursor.items c.in-Ok.cursor.from c.in-Ok.cursor.index c.args.index c.seek.new.self.index c.in-Ok.ensures.items (c.in-Ok.ensures.from ∙ c.none.ensures) c.in-Ok.ensures.index
    (subst (λ (ss : List Span). c.args.index ≤ length ss) (sym c.self.view_is) c.requires) (ap (λ s. s.index) c.in-Ok-seek.ensures.moved)
