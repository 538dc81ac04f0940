use Rattle.std.proofs.Common.{ap, sym, subst, arith}
use Rattle.sum_tree.specs.Seen.{Seen}
use Rattle.sum_tree.specs.Shape.{IsChild}
use Rattle.sum_tree.proofs.Heights.{of_ok}
use Rattle.sum_tree.proofs.cut.run.Goals as goal

pub returns-then-nodes-eq1-clause-least : goal.returns-then-nodes-eq1-clause-least
returns-then-nodes-eq1-clause-least g c =
    let t = c.index-nodes-0.result in
    let child : IsChild c.args.height t = subst (λ (u : Seen _). IsChild c.args.height u) (sym c.index-nodes-0.is) (c.requires.children 0 t (omega (arith, c.requires.some))) in
    of_ok c.share.result c.share.ensures (λ u e. omega (arith, ap (λ (q : Seen _). q.height) e, child.lower))

pub returns-then-nodes-eq1-clause-most : goal.returns-then-nodes-eq1-clause-most
returns-then-nodes-eq1-clause-most g c =
    let t = c.index-nodes-0.result in
    let child : IsChild c.args.height t = subst (λ (u : Seen _). IsChild c.args.height u) (sym c.index-nodes-0.is) (c.requires.children 0 t (omega (arith, c.requires.some))) in
    of_ok c.share.result c.share.ensures (λ u e. omega (arith, ap (λ (q : Seen _). q.height) e, child.lower))

pub returns-clause-least : goal.returns-clause-least
returns-clause-least g c = of_ok c.inner.result c.inner.ensures.height (λ u e. omega (arith, e))

pub returns-clause-most : goal.returns-clause-most
returns-clause-most g c = of_ok c.inner.result c.inner.ensures.height (λ u e. omega (arith, e))
