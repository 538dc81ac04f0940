use Rattle.std.proofs.Common.{◌≡◌, ◌+◌, List, [], ◌++◌, length, drop, ap, sym, ◌∙◌, arith}
use Rattle.std.proofs.lemmas.List.{append-nil, drop_all, length-drop, take_rest}
use Rattle.std.proofs.lemmas.List.Elements.{All-drop}
use Rattle.sum_tree.specs.Seen.{Seen}
use Rattle.sum_tree.specs.Shape.{join_items, IsChild}
use Rattle.sum_tree.proofs.Folds.{fits_drop}
use Rattle.sum_tree.proofs.Children.{fits_joined_drop, joined-drop_le}
use Rattle.sum_tree.proofs.Opened.{opened}
use Rattle.sum_tree.proofs.Heights.{of_ok, on_ok}
use Rattle.sum_tree.proofs.Nodes.{leaf_of, node_height, seen_short, seen_fits}
use Rattle.sum_tree.proofs.Cuts.{cut_of, cut_rest, cut_behind}
use Rattle.sum_tree.proofs.tree.SumTree.+drop_front_counted.Goals as goal

pub copied_leaf-requires-clause-fits : goal.copied_leaf-requires-clause-fits
copied_leaf-requires-clause-fits g t' c =
    let leaf = leaf_of c.self.view_is c.deref.ensures c.in-Leaf.is c.self.invariant.0 in
    let known = seen_fits g.met.T.Summary.Summary.laws g.T.Item.sum_of g.met.T.Item.admitted c.self.inside.node.value c.self.view_is c.self.invariant.3 in
    rw (take_rest c.deref-in-Leaf.result.now c.args.n, c.deref-in-Leaf.ensures.value, ← leaf.items) (fits_drop g.met.T.Summary.Summary.laws g.T.Item.sum_of g.met.T.Item.admitted c.args.self.now.items c.args.n known)

pub copied_leaf-requires-clause-narrow : goal.copied_leaf-requires-clause-narrow
copied_leaf-requires-clause-narrow g t' c =
    let leaf = leaf_of c.self.view_is c.deref.ensures c.in-Leaf.is c.self.invariant.0 in
    rw (take_rest c.deref-in-Leaf.result.now c.args.n, c.deref-in-Leaf.ensures.value) (omega (arith, length-drop c.args.n c.in-Leaf.entries.items, leaf.few))

pub run-requires-clause-children : goal.run-requires-clause-children
run-requires-clause-children g t' c =
    let inner = opened _ _ _ _ c.self.view_is c.deref.ensures c.in-Inner.is c.self.invariant.0 in
    rw (take_rest c.deref-in-Inner-3.result.now (c.child_at-k.result.0 + 1), node_height c.deref-in-Inner-2.ensures c.self.view_is, c.deref-in-Inner-3.ensures.value) (All-drop (IsChild c.args.self.now.height) (c.child_at-k.result.0 + 1) c.in-Inner.children.items inner.children)

pub run-requires-clause-most : goal.run-requires-clause-most
run-requires-clause-most g t' c =
    let inner = opened _ _ _ _ c.self.view_is c.deref.ensures c.in-Inner.is c.self.invariant.0 in
    rw (take_rest c.deref-in-Inner-3.result.now (c.child_at-k.result.0 + 1), c.deref-in-Inner-3.ensures.value) (omega (arith, length-drop (c.child_at-k.result.0 + 1) c.in-Inner.children.items, inner.most))

pub run-requires-clause-short : goal.run-requires-clause-short
run-requires-clause-short g t' c =
    let inner = opened _ _ _ _ c.self.view_is c.deref.ensures c.in-Inner.is c.self.invariant.0 in
    let short = seen_short c.self.inside.node.value c.self.view_is c.self.invariant.4 in
    rw (take_rest c.deref-in-Inner-3.result.now (c.child_at-k.result.0 + 1), c.deref-in-Inner-3.ensures.value) (omega (arith, joined-drop_le c.in-Inner.children.items (c.child_at-k.result.0 + 1), ap length inner.items, short))

pub run-requires-clause-fits : goal.run-requires-clause-fits
run-requires-clause-fits g t' c =
    let inner = opened _ _ _ _ c.self.view_is c.deref.ensures c.in-Inner.is c.self.invariant.0 in
    let known = seen_fits g.met.T.Summary.Summary.laws g.T.Item.sum_of g.met.T.Item.admitted c.self.inside.node.value c.self.view_is c.self.invariant.3 in
    rw (take_rest c.deref-in-Inner-3.result.now (c.child_at-k.result.0 + 1), c.deref-in-Inner-3.ensures.value) (fits_joined_drop g.met.T.Summary.Summary.laws g.T.Item.sum_of g.met.T.Item.admitted c.in-Inner.children.items (c.child_at-k.result.0 + 1) (rw inner.items at known))

pub both-requires-clause-short : goal.both-requires-clause-short
both-requires-clause-short g t' c =
    let cut = cut_of c.child_at-k.result.0 c.child_at-k.result.1 c.args.n c.self.view_is c.deref.ensures c.in-Inner.is c.self.invariant.0 c.deref-in-Inner.ensures.value c.child_at-k.ensures.child c.child_at-k.ensures.within c.child_at-k.ensures.before c.index.ensures in
    let short = seen_short c.self.inside.node.value c.self.view_is c.self.invariant.4 in
    let whole = cut_behind cut c.deref-in-Inner-3.ensures.value c.in_ok-rest-in-Inner.ensures.items c.in_ok-back-in-Inner.ensures.items in
    rw whole (omega (arith, length-drop c.args.n c.args.self.now.items, short))

pub both-requires-clause-fits : goal.both-requires-clause-fits
both-requires-clause-fits g t' c =
    let cut = cut_of c.child_at-k.result.0 c.child_at-k.result.1 c.args.n c.self.view_is c.deref.ensures c.in-Inner.is c.self.invariant.0 c.deref-in-Inner.ensures.value c.child_at-k.ensures.child c.child_at-k.ensures.within c.child_at-k.ensures.before c.index.ensures in
    let known = seen_fits g.met.T.Summary.Summary.laws g.T.Item.sum_of g.met.T.Item.admitted c.self.inside.node.value c.self.view_is c.self.invariant.3 in
    let whole = cut_behind cut c.deref-in-Inner-3.ensures.value c.in_ok-rest-in-Inner.ensures.items c.in_ok-back-in-Inner.ensures.items in
    rw whole (fits_drop g.met.T.Summary.Summary.laws g.T.Item.sum_of g.met.T.Item.admitted c.args.self.now.items c.args.n known)

pub returns-in_ok-back-in-Inner-clause-items : goal.returns-in_ok-back-in-Inner-clause-items
returns-in_ok-back-in-Inner-clause-items g t' c =
    let cut = cut_of c.child_at-k.result.0 c.child_at-k.result.1 c.args.n c.self.view_is c.deref.ensures c.in-Inner.is c.self.invariant.0 c.deref-in-Inner.ensures.value c.child_at-k.ensures.child c.child_at-k.ensures.within c.child_at-k.ensures.before c.index.ensures in
    let whole = cut_behind cut c.deref-in-Inner-3.ensures.value c.in_ok-rest-in-Inner.ensures.items c.in_ok-back-in-Inner.ensures.items in
    of_ok c.both.result c.both.ensures.items (λ z e. e ∙ whole)

pub returns-then-next-len-clause-items : goal.returns-then-next-len-clause-items
returns-then-next-len-clause-items g t' c =
    let cut = cut_of c.child_at-k.result.0 c.child_at-k.result.1 c.args.n c.self.view_is c.deref.ensures c.in-Inner.is c.self.invariant.0 c.deref-in-Inner.ensures.value c.child_at-k.ensures.child c.child_at-k.ensures.within c.child_at-k.ensures.before c.index.ensures in
    let none : drop (c.child_at-k.result.0 + 1) c.in-Inner.children.items ≡ [] = drop_all (c.child_at-k.result.0 + 1) c.in-Inner.children.items (omega (arith, c.if-next-len.true, c.len-in-Inner.ensures, c.in-Inner.children.ok)) in
    let own = drop c.child_at-k.result.1 c.index.result.now.items in
    c.in_ok-rest-in-Inner.ensures.items ∙ sym (cut_rest cut ∙ ap (λ (us : List (Seen _)). own ++ join_items us) none ∙ append-nil own)

pub run-requires-clause-some : goal.run-requires-clause-some
run-requires-clause-some g t' c =
    rw (take_rest c.deref-in-Inner-3.result.now (c.child_at-k.result.0 + 1), c.deref-in-Inner-3.ensures.value) (omega (arith, length-drop (c.child_at-k.result.0 + 1) c.in-Inner.children.items, c.child_at-k.ensures.child, ap length c.deref-in-Inner.ensures.value, c.if-next-len.false, c.len-in-Inner.ensures, c.in-Inner.children.ok))

pub returns-in_err-rest-in-Inner-clause-cost : goal.returns-in_err-rest-in-Inner-clause-cost
returns-in_err-rest-in-Inner-clause-cost g t' c =
    let cut = cut_of c.child_at-k.result.0 c.child_at-k.result.1 c.args.n c.self.view_is c.deref.ensures c.in-Inner.is c.self.invariant.0 c.deref-in-Inner.ensures.value c.child_at-k.ensures.child c.child_at-k.ensures.within c.child_at-k.ensures.before c.index.ensures in
    omega (arith, cut.child.lower, c.drop_front_counted.ensures.cost)

pub returns-then-next-len-clause-height : goal.returns-then-next-len-clause-height
returns-then-next-len-clause-height g t' c =
    let cut = cut_of c.child_at-k.result.0 c.child_at-k.result.1 c.args.n c.self.view_is c.deref.ensures c.in-Inner.is c.self.invariant.0 c.deref-in-Inner.ensures.value c.child_at-k.ensures.child c.child_at-k.ensures.within c.child_at-k.ensures.before c.index.ensures in
    omega (arith, cut.child.lower, c.in_ok-rest-in-Inner.ensures.height)

pub returns-then-next-len-clause-low : goal.returns-then-next-len-clause-low
returns-then-next-len-clause-low g t' c =
    let cut = cut_of c.child_at-k.result.0 c.child_at-k.result.1 c.args.n c.self.view_is c.deref.ensures c.in-Inner.is c.self.invariant.0 c.deref-in-Inner.ensures.value c.child_at-k.ensures.child c.child_at-k.ensures.within c.child_at-k.ensures.before c.index.ensures in
    omega (arith, cut.child.lower, c.in_ok-rest-in-Inner.ensures.low)

pub returns-then-next-len-clause-cost : goal.returns-then-next-len-clause-cost
returns-then-next-len-clause-cost g t' c =
    let cut = cut_of c.child_at-k.result.0 c.child_at-k.result.1 c.args.n c.self.view_is c.deref.ensures c.in-Inner.is c.self.invariant.0 c.deref-in-Inner.ensures.value c.child_at-k.ensures.child c.child_at-k.ensures.within c.child_at-k.ensures.before c.index.ensures in
    omega (arith, cut.child.lower, c.drop_front_counted.ensures.cost)

pub returns-in_err-back-in-Inner-clause-cost : goal.returns-in_err-back-in-Inner-clause-cost
returns-in_err-back-in-Inner-clause-cost g t' c =
    let cut = cut_of c.child_at-k.result.0 c.child_at-k.result.1 c.args.n c.self.view_is c.deref.ensures c.in-Inner.is c.self.invariant.0 c.deref-in-Inner.ensures.value c.child_at-k.ensures.child c.child_at-k.ensures.within c.child_at-k.ensures.before c.index.ensures in
    omega (arith, cut.child.lower, c.in_ok-rest-in-Inner.ensures.height, c.in_ok-rest-in-Inner.ensures.low, c.run.ensures.cost)

pub returns-in_ok-back-in-Inner-clause-height : goal.returns-in_ok-back-in-Inner-clause-height
returns-in_ok-back-in-Inner-clause-height g t' c =
    let cut = cut_of c.child_at-k.result.0 c.child_at-k.result.1 c.args.n c.self.view_is c.deref.ensures c.in-Inner.is c.self.invariant.0 c.deref-in-Inner.ensures.value c.child_at-k.ensures.child c.child_at-k.ensures.within c.child_at-k.ensures.before c.index.ensures in
    let height = node_height c.deref-in-Inner-2.ensures c.self.view_is in
    of_ok c.both.result c.both.ensures.most (λ z m. omega (arith, m, cut.child.lower, height, c.in_ok-rest-in-Inner.ensures.height, c.in_ok-back-in-Inner.ensures.least, c.in_ok-back-in-Inner.ensures.most))

pub returns-in_ok-back-in-Inner-clause-low : goal.returns-in_ok-back-in-Inner-clause-low
returns-in_ok-back-in-Inner-clause-low g t' c =
    let cut = cut_of c.child_at-k.result.0 c.child_at-k.result.1 c.args.n c.self.view_is c.deref.ensures c.in-Inner.is c.self.invariant.0 c.deref-in-Inner.ensures.value c.child_at-k.ensures.child c.child_at-k.ensures.within c.child_at-k.ensures.before c.index.ensures in
    let height = node_height c.deref-in-Inner-2.ensures c.self.view_is in
    of_ok c.both.result c.both.ensures.least (λ z l. omega (arith, l, cut.child.lower, height, c.in_ok-rest-in-Inner.ensures.height, c.in_ok-back-in-Inner.ensures.least, c.in_ok-back-in-Inner.ensures.most, c.in_ok-rest-in-Inner.ensures.low, c.run.ensures.cost, c.both.ensures.cost))

pub returns-in_ok-back-in-Inner-clause-cost : goal.returns-in_ok-back-in-Inner-clause-cost
returns-in_ok-back-in-Inner-clause-cost g t' c =
    let cut = cut_of c.child_at-k.result.0 c.child_at-k.result.1 c.args.n c.self.view_is c.deref.ensures c.in-Inner.is c.self.invariant.0 c.deref-in-Inner.ensures.value c.child_at-k.ensures.child c.child_at-k.ensures.within c.child_at-k.ensures.before c.index.ensures in
    let height = node_height c.deref-in-Inner-2.ensures c.self.view_is in
    omega (arith, cut.child.lower, height, c.in_ok-rest-in-Inner.ensures.height, c.in_ok-back-in-Inner.ensures.least, c.in_ok-back-in-Inner.ensures.most, c.in_ok-rest-in-Inner.ensures.low, c.run.ensures.cost, c.both.ensures.cost)

pub returns-in-Leaf-clause-height : goal.returns-in-Leaf-clause-height
returns-in-Leaf-clause-height g t' c =
    of_ok c.copied_leaf.result c.copied_leaf.ensures.height (λ z e. omega (arith, e))

pub returns-in-Leaf-clause-low : goal.returns-in-Leaf-clause-low
returns-in-Leaf-clause-low g t' c =
    on_ok c.copied_leaf.result (λ z. omega (arith, c.copied_leaf.ensures.cost))
