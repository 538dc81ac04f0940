use Rattle.std.specs.Prelude.{string_bytes}
use Rattle.op_model.specs.Shown.{text}
use Rattle.fold_map.specs.Folds.{shown}
use Rattle.fold_map.proofs.ShownParts.{Upto}
use Rattle.fold_map.proofs.map.FoldMap.text.Given as goal

abbrev pub invariant-loop-index : goal.invariant-loop-index
invariant-loop-index l = Upto (text l.self.history) (shown l.self) l.tree.items l.index l.from l.at (string_bytes l.shown)
