use Rattle.std.proofs.Common.{ap, ◌∙◌, ◌++◌, List, ℕ}
use Rattle.fold_spans.proofs.Touches.{folds_more, next_index}
use Rattle.fold_spans.proofs.spans.Spans.folds.Goals as goal

pub loop-index-preserved : goal.loop-index-preserved
loop-index-preserved c =
    let v = c.loop-index.invariant in
    record {
      items = ap (λ p. p.items) c.in-Ok.ensures.moved ∙ v.items;
      at = next_index c.loop-index.cursor.items c.loop-index.cursor.index c.loop-index._index c.next.new.self.index c.in-Some.span.now v.at c.in-Some.ensures (ap (λ p. p.index) c.in-Ok.ensures.moved);
      so_far = c.in_ok-extend_from_slice.ensures.items ∙ ap (λ (ns : List ℕ). c.loop-index.numbers.items ++ ns) c.folds.ensures
          ∙ folds_more c.args.self.now c.loop-index.cursor.items c.args.from c.loop-index._index c.loop-index.cursor.index c.in-Some.span.now c.loop-index.numbers.items c.loop-index.auto._index v.items v.at c.in-Some.ensures v.so_far;
    }
