use Rattle.std.proofs.Common.{◌≡◌, sym, ap, subst, arith}
use Rattle.std.specs.Prelude.{OnOk}
use Rattle.remote_edit.specs.declared.tree_change.TreeChange.{TreeChange}
use Rattle.remote_edit.specs.Changes.{after_change, MayChange, ChangeFew}
use Rattle.remote_edit.proofs.tree_change.TreeChange.make.Goals as goal

pub put-requires-clause-order : goal.put-requires-clause-order
put-requires-clause-order g c = (subst (λ (z : TreeChange). MayChange z c.args.tree.now.items) c.in-Range.is c.requires).0

pub put-requires-clause-within : goal.put-requires-clause-within
put-requires-clause-within g c = (subst (λ (z : TreeChange). MayChange z c.args.tree.now.items) c.in-Range.is c.requires).1

pub put-requires-clause-fit : goal.put-requires-clause-fit
put-requires-clause-fit g c = (subst (λ (z : TreeChange). MayChange z c.args.tree.now.items) c.in-Range.is c.requires).2

pub returns-in-Range-clause-ok : goal.returns-in-Range-clause-ok
returns-in-Range-clause-ok g c = subst (λ (z : TreeChange). OnOk c.put.result (c.put.new.tree.items ≡ after_change z c.args.tree.now.items)) (sym c.in-Range.is) c.put.ensures.items

pub returns-in-Range-clause-cost : goal.returns-in-Range-clause-cost
returns-in-Range-clause-cost g c = subst (λ (z : TreeChange). ChangeFew z c.args.steps.now c.put.new.steps) (sym c.in-Range.is) c.put.ensures.cost

pub returns-in-Whole-clause-ok : goal.returns-in-Whole-clause-ok
returns-in-Whole-clause-ok g c = sym (ap (λ (z : TreeChange). after_change z c.args.tree.now.items) c.in-Whole.is)

pub returns-in-Whole-clause-cost : goal.returns-in-Whole-clause-cost
returns-in-Whole-clause-cost g c = subst (λ (z : TreeChange). ChangeFew z c.args.steps.now c.args.steps.now) (sym c.in-Whole.is) (omega arith)
