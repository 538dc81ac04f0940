use Rattle.std.proofs.Common.{List, length, [], ap, ◌∙◌}
use Rattle.std.proofs.lemmas.List.Elements.{All-nil, All-same}
use Rattle.fold_map.specs.Folds.{IsFold}
use Rattle.fold_map.specs.Numbered.{fold_of, state_of}
use Rattle.fold_map.specs.declared.fold.NumberedFold.{NumberedFold}
use Rattle.fold_map.proofs.Remade.{open_spans}
use Rattle.fold_map.proofs.map.FoldMap.new.Goals as goal

pub invariant_of-result : goal.invariant_of-result
invariant_of-result c = record {
  folds = All-same (λ f. IsFold c.args.snap (fold_of f)) c.in_ok-folds.folds [] c.in_ok-folds.ensures (All-nil (λ f. IsFold c.args.snap (fold_of f)));
  spans = open_spans c.args.snap c.in_ok-folds.folds c.in_ok-spans.spans c.len.result c.in_ok-folds.ensures (c.len.ensures ∙ ap length c.text.ensures) c.in_ok-spans.ensures;
}

pub returns : goal.returns
returns c = ap (λ (fs : List NumberedFold). state_of c.args.snap fs) c.in_ok-folds.ensures
