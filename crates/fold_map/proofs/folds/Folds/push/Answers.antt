use Rattle.std.proofs.Common.{List, [], ◌∷◌, ◌++◌, ap, refl, ◌∙◌, arith}
use Rattle.fold_map.specs.declared.fold.NumberedFold.{NumberedFold}
use Rattle.fold_map.proofs.Numbers.{more_numbered}
use Rattle.fold_map.proofs.folds.Folds.push.Goals as goal

pub invariant_of-self-2 : goal.invariant_of-self-2
invariant_of-self-2 c =
    more_numbered c.self.inside.next _ c.self.inside.tree.items c.push.new.self.items (record { number = c.self.inside.next; fold = c.args.fold }) c.self.invariant refl refl (omega (arith, c.len.ensures)) c.in_ok-push.ensures.ok

pub returns-clause-ok : goal.returns-clause-ok
returns-clause-ok c = c.in_ok-push.ensures.ok ∙ ap (λ (fs : List NumberedFold). fs ++ record { number = c.self.inside.next; fold = c.args.fold } ∷ []) c.self.view_is
