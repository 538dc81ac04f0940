use Rattle.std.proofs.Common.{List, Option, [], ◌∷◌, ◌++◌, ap, sym, ◌∙◌}
use Rattle.fold_spans.specs.declared.sweep.FoldRange.{FoldRange}
use Rattle.fold_map.specs.declared.fold.NumberedFold.{NumberedFold}
use Rattle.fold_map.specs.Folds.{IsFold}
use Rattle.fold_map.specs.Numbered.{fold_of}
use Rattle.fold_map.specs.Windows.{found_range}
use Rattle.fold_map.proofs.Named.{what_is_found}
use Rattle.fold_map.proofs.windows.push_range.Goals as goal

pub range_of-requires : goal.range_of-requires
range_of-requires c = what_is_found (λ f. IsFold c.args.snapshot.now (fold_of f)) c.args.number c.args.folds.now c.in-Some.numbered.now c.requires (sym c.in-Some.ensures)

pub returns : goal.returns
returns c =
    let old : List FoldRange = c.args.ranges.now.items in
    c.in_ok-push.ensures.items ∙ ap (λ (r : FoldRange). old ++ r ∷ []) c.range_of.ensures
    ∙ ap (λ (o : Option NumberedFold). old ++ found_range c.args.snapshot.now o) c.in-Some.ensures
