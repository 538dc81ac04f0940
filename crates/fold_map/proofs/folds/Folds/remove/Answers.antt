use Rattle.std.proofs.Common.{List, ap, ◌∙◌, nat_cmp}
use Rattle.sum_tree.specs.Keyed.{remove_key}
use Rattle.fold_map.specs.Numbered.{number_of}
use Rattle.fold_map.specs.declared.fold.NumberedFold.{NumberedFold}
use Rattle.fold_map.proofs.Numbers.{fewer_numbered}
use Rattle.fold_map.proofs.folds.Folds.remove.Goals as goal

pub invariant_of-self-2 : goal.invariant_of-self-2
invariant_of-self-2 c = fewer_numbered c.self.inside.next c.args.number c.self.inside.tree.items c.remove.new.self.items c.self.invariant c.in_ok-remove.ensures.ok c.remove.ensures.ascending

pub returns-clause-ok : goal.returns-clause-ok
returns-clause-ok c = c.in_ok-remove.ensures.ok ∙ ap (λ (fs : List NumberedFold). remove_key nat_cmp number_of c.args.number fs) c.self.view_is
