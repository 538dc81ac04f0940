use Rattle.std.proofs.Common.{rules, ◌≡◌, ◌+◌, ◌-◌, ◌*◌, ◌^◌, ◌<◌, [], ◌∷◌, ◌++◌, List, Option, IfOk, length, set, refl, ap, sym, subst, ◌∙◌, arith, length-append}
use Rattle.std.specs.Prelude.{IfSome}
use Rattle.sum_tree.specs.Laws.{fold}
use Rattle.sum_tree.specs.Here.{IsContinuation}
use Rattle.sum_tree.specs.Seen.{Seen}
use Rattle.sum_tree.specs.Shape.{IsContent, IsNode, join_items, content_items}
use Rattle.sum_tree.specs.Placed.{AreChildren, inner_seen}
use Rattle.sum_tree.specs.declared.tree.Content.{Content}
use Rattle.sum_tree.specs.declared.tree.Node.{Node}
use Rattle.sum_tree.proofs.Heres.{start_sum, start_fits, next_fits}
use Rattle.sum_tree.proofs.Nodes.{node_height, inner_of}
use Rattle.sum_tree.proofs.Ends.{last_of, last_length, last_same, last_children, last_behind, last_growth, last_fits}
use Rattle.sum_tree.proofs.Pushes.{beside_children, beside_pushed, pushed_node}
use Rattle.sum_tree.proofs.tree.SumTree.+pushing.Goals as goal

pub push_in_children-push_here-requires : goal.push_in_children-push_here-requires
push_in_children-push_here-requires g t' c κs within =
    let last = last_of (inner_of c.args.height c.args.children.now.items c.requires.children) (c.len-last.ensures ∙ c.args.children.now.ok.0) c.index_mut.ensures.value in
    let fewer : 3 * c.index_mut.result.now.height + 2 < 3 * c.args.height = omega (arith, last.child.lower) in
    let short : length c.index_mut.result.now.items < 2 ^ 40 = omega (arith, last_length last, c.requires.short) in
    let fits = last_fits g.met.T.Summary.Summary.laws g.T.Item.sum_of g.met.T.Item.admitted (c.args.entry ∷ []) last c.requires.fits in
    search rules

pub push_in_children-returns-in_err-entry-clause-children : goal.push_in_children-returns-in_err-entry-clause-children
push_in_children-returns-in_err-entry-clause-children g t' c =
    let last = last_of (inner_of c.args.height c.args.children.now.items c.requires.children) (c.len-last.ensures ∙ c.args.children.now.ok.0) c.index_mut.ensures.value in
    last_children last c.in_err-entry.ensures.pushed

pub push_in_children-returns-in_err-entry-clause-pushed : goal.push_in_children-returns-in_err-entry-clause-pushed
push_in_children-returns-in_err-entry-clause-pushed g t' c =
    let last = last_of (inner_of c.args.height c.args.children.now.items c.requires.children) (c.len-last.ensures ∙ c.args.children.now.ok.0) c.index_mut.ensures.value in
    let kept = ap (inner_seen c.args.height) (last_same last c.in_err-entry.ensures.pushed) in
    search rules

pub push_in_children-returns-in_err-entry-clause-cost : goal.push_in_children-returns-in_err-entry-clause-cost
push_in_children-returns-in_err-entry-clause-cost g t' c =
    let last = last_of (inner_of c.args.height c.args.children.now.items c.requires.children) (c.len-last.ensures ∙ c.args.children.now.ok.0) c.index_mut.ensures.value in
    omega (arith, last.child.lower, c.push_here.ensures.cost)

pub push_in_children-returns-in-None-clause-children : goal.push_in_children-returns-in-None-clause-children
push_in_children-returns-in-None-clause-children g t' c =
    let last = last_of (inner_of c.args.height c.args.children.now.items c.requires.children) (c.len-last.ensures ∙ c.args.children.now.ok.0) c.index_mut.ensures.value in
    let grown = last_growth c.push_here.new.self c.args.entry last (rw c.in-None.is at c.in_ok-entry.ensures.pushed) in
    grown.0

pub push_in_children-returns-in-None-clause-pushed : goal.push_in_children-returns-in-None-clause-pushed
push_in_children-returns-in-None-clause-pushed g t' c =
    let last = last_of (inner_of c.args.height c.args.children.now.items c.requires.children) (c.len-last.ensures ∙ c.args.children.now.ok.0) c.index_mut.ensures.value in
    let grown = last_growth c.push_here.new.self c.args.entry last (rw c.in-None.is at c.in_ok-entry.ensures.pushed) in
    grown.1

pub push_in_children-returns-in-None-clause-cost : goal.push_in_children-returns-in-None-clause-cost
push_in_children-returns-in-None-clause-cost g t' c =
    let last = last_of (inner_of c.args.height c.args.children.now.items c.requires.children) (c.len-last.ensures ∙ c.args.children.now.ok.0) c.index_mut.ensures.value in
    omega (arith, last.child.lower, c.push_here.ensures.cost)

pub push_in_children-push_beside-requires-clause-children : goal.push_in_children-push_beside-requires-clause-children
push_in_children-push_beside-requires-clause-children g t' c =
    let last = last_of (inner_of c.args.height c.args.children.now.items c.requires.children) (c.len-last.ensures ∙ c.args.children.now.ok.0) c.index_mut.ensures.value in
    let same = rw c.in-Some.is at c.in_ok-entry.ensures.pushed in
    (last_children last same.0).0

pub push_in_children-push_beside-requires-clause-least : goal.push_in_children-push_beside-requires-clause-least
push_in_children-push_beside-requires-clause-least g t' c =
    let last = last_of (inner_of c.args.height c.args.children.now.items c.requires.children) (c.len-last.ensures ∙ c.args.children.now.ok.0) c.index_mut.ensures.value in
    let same = rw c.in-Some.is at c.in_ok-entry.ensures.pushed in
    (last_children last same.0).1

pub push_in_children-push_beside-requires-clause-short : goal.push_in_children-push_beside-requires-clause-short
push_in_children-push_beside-requires-clause-short g t' c =
    let last = last_of (inner_of c.args.height c.args.children.now.items c.requires.children) (c.len-last.ensures ∙ c.args.children.now.ok.0) c.index_mut.ensures.value in
    let same = rw c.in-Some.is at c.in_ok-entry.ensures.pushed in
    omega (arith, ap length (last_behind last same.0 same.1), length-append (join_items c.args.children.now.items) (c.args.entry ∷ []), c.requires.short)

pub push_in_children-push_beside-requires-clause-fits : goal.push_in_children-push_beside-requires-clause-fits
push_in_children-push_beside-requires-clause-fits g t' c =
    let last = last_of (inner_of c.args.height c.args.children.now.items c.requires.children) (c.len-last.ensures ∙ c.args.children.now.ok.0) c.index_mut.ensures.value in
    let same = rw c.in-Some.is at c.in_ok-entry.ensures.pushed in
    subst (λ (zs : List _). g.T.Summary.Summary.fits (fold g.T.Summary.Summary.empty g.T.Summary.Summary.op g.T.Item.sum_of zs)) (sym (last_behind last same.0 same.1)) c.requires.fits

pub push_in_children-returns-in-Some-clause-children : goal.push_in_children-returns-in-Some-clause-children
push_in_children-returns-in-Some-clause-children g t' c =
    let last = last_of (inner_of c.args.height c.args.children.now.items c.requires.children) (c.len-last.ensures ∙ c.args.children.now.ok.0) c.index_mut.ensures.value in
    let same = rw c.in-Some.is at c.in_ok-entry.ensures.pushed in
    beside_children c.args.height (set c.args.children.now.items (c.len-last.result - 1) c.push_here.new.self) c.push_beside.new.children.items c.in-Some.entry c.push_beside.result c.push_beside.ensures.pushed (last_children last same.0)

pub push_in_children-returns-in-Some-clause-pushed : goal.push_in_children-returns-in-Some-clause-pushed
push_in_children-returns-in-Some-clause-pushed g t' c =
    let last = last_of (inner_of c.args.height c.args.children.now.items c.requires.children) (c.len-last.ensures ∙ c.args.children.now.ok.0) c.index_mut.ensures.value in
    let same = rw c.in-Some.is at c.in_ok-entry.ensures.pushed in
    beside_pushed c.args.height (set c.args.children.now.items (c.len-last.result - 1) c.push_here.new.self) c.args.children.now.items c.push_beside.new.children.items c.in-Some.entry c.args.entry c.push_beside.result (last_same last same.0) same.1 c.push_beside.ensures.pushed

pub push_in_children-returns-in-Some-clause-back : goal.push_in_children-returns-in-Some-clause-back
push_in_children-returns-in-Some-clause-back g t' c =
    let unticked : c.push_here.new.steps ≡ c.args.steps.now = subst (λ (o : Option _). IfSome o (λ _. c.push_here.new.steps ≡ c.args.steps.now)) c.in-Some.is c.in_ok-entry.ensures.back in
    subst (λ (k : _). IfOk c.push_beside.result (λ o. IfSome o (λ _. c.push_beside.new.steps ≡ k))) unticked c.push_beside.ensures.back

pub push_in_children-returns-in-Some-clause-cost : goal.push_in_children-returns-in-Some-clause-cost
push_in_children-returns-in-Some-clause-cost g t' c =
    let unticked : c.push_here.new.steps ≡ c.args.steps.now = subst (λ (o : Option _). IfSome o (λ _. c.push_here.new.steps ≡ c.args.steps.now)) c.in-Some.is c.in_ok-entry.ensures.back in
    omega (arith, unticked, c.push_beside.ensures.cost)

pub push_in-push_in_children-requires : goal.push_in-push_in_children-requires
push_in-push_in_children-requires g t c κs within =
    let h = c.args.height in
    let x = c.args.entry in
    let is = c.in-Inner.is in
    let children : AreChildren h c.in-Inner.children.items = subst (λ (q : Content _ _). IsContent h q) is c.requires.content in
    let short = subst (λ (q : Content _ _). length (content_items q) < 2 ^ 40) is c.requires.short in
    let fits = subst (λ (q : Content _ _). g.T.Summary.Summary.fits (fold g.T.Summary.Summary.empty g.T.Summary.Summary.op g.T.Item.sum_of (content_items q ++ x ∷ []))) is c.requires.fits in
    search rules

pub push_here-push_in-requires : goal.push_here-push_in-requires
push_here-push_in-requires g t c κs within =
    let fewer : 3 * c.in-Some.node.now.height + 1 < 3 * c.args.self.now.height + 2 = omega (arith, node_height c.in-Some.ensures.value c.self.view_is) in
    search rules

pub push_here-sum_with-requires-clause-begun : goal.push_here-sum_with-requires-clause-begun
push_here-sum_with-requires-clause-begun g t c =
    let s = c.args.self.now in
    let old = c.self.inside.node.value in
    let m = c.in-Some.node.now in
    start_fits g.met.T.Summary.Summary.laws g.T.Item.sum_of g.met.T.Item.admitted old m g.T.Summary.Summary.empty c.in-Some.ensures.value refl c.self.invariant

pub push_here-sum_with-requires-clause-fits : goal.push_here-sum_with-requires-clause-fits
push_here-sum_with-requires-clause-fits g t c =
    let s = c.args.self.now in
    let old = c.self.inside.node.value in
    let m = c.in-Some.node.now in
    let items : s.items ≡ content_items old.content = sym (ap (λ (q : Seen _). q.items) c.self.view_is) in
    let ok = subst (λ (zs : List _). g.T.Summary.Summary.fits (fold g.T.Summary.Summary.empty g.T.Summary.Summary.op g.T.Item.sum_of (zs ++ c.args.entry ∷ []))) items c.requires.fits in
    let begun = start_sum g.met.T.Summary.Summary.laws g.T.Item.sum_of g.met.T.Item.admitted old m g.T.Summary.Summary.empty c.in-Some.ensures.value refl c.self.invariant in
    next_fits g.met.T.Summary.Summary.laws g.T.Item.sum_of g.met.T.Item.admitted (content_items old.content) c.args.entry (g.T.Summary.Summary.op g.T.Summary.Summary.empty m.sum) (g.T.Item.sum_of c.args.entry) begun refl ok

pub push_here-invariant_of-self-in-None-2 : goal.push_here-invariant_of-self-in-None-2
push_here-invariant_of-self-in-None-2 g t c =
    let s = c.args.self.now in
    let old = c.self.inside.node.value in
    let m = c.in-Some.node.now in
    let S = g.T.Summary.Summary in
    let same = sym c.in-Some.ensures.value in
    let node : IsNode S.empty S.op S.fits g.T.Item.sum_of m = subst (λ (q : Node _ _). IsNode S.empty S.op S.fits g.T.Item.sum_of q) same c.self.invariant in
    let items : s.items ≡ content_items m.content = sym (ap (λ (q : Seen _). q.items) c.self.view_is) ∙ ap (λ (q : Node _ _). content_items q.content) same in
    let ok = subst (λ (zs : List _). S.fits (fold S.empty S.op g.T.Item.sum_of (zs ++ c.args.entry ∷ []))) items c.requires.fits in
    let short = subst (λ (zs : List _). length zs < 2 ^ 40) items c.requires.short in
    pushed_node g.met.T.Summary.Summary.laws g.T.Item.sum_of g.met.T.Item.admitted m.len m.height m.sum c.in_ok-sum.sum m.content c.push_in.new.content c.args.entry _ c.in-None-2.is node c.in_ok-entry.ensures.content c.in_ok-entry.ensures.pushed c.in_ok-sum.ensures ok short

pub push_here-returns-in_err-entry-clause-cost : goal.push_here-returns-in_err-entry-clause-cost
push_here-returns-in_err-entry-clause-cost g t c =
    omega (arith, node_height c.in-Some.ensures.value c.self.view_is, c.push_in.ensures.cost)

pub push_here-returns-in-Some-2-clause-cost : goal.push_here-returns-in-Some-2-clause-cost
push_here-returns-in-Some-2-clause-cost g t c =
    omega (arith, node_height c.in-Some.ensures.value c.self.view_is, c.push_in.ensures.cost)

pub push_here-returns-in-None-2-clause-cost : goal.push_here-returns-in-None-2-clause-cost
push_here-returns-in-None-2-clause-cost g t c =
    omega (arith, node_height c.in-Some.ensures.value c.self.view_is, c.push_in.ensures.cost)

pub push_in_children-push_beside-requires-clause-may : goal.push_in_children-push_beside-requires-clause-may
push_in_children-push_beside-requires-clause-may g t' c =
    let same : c.push_here.new.rest ≡ c.args.rest.now = rw c.in-Some.is at c.in_ok-entry.ensures.rest in
    subst g.K.Continuation.may (sym same) c.requires.may

pub push_in_children-returns-in-Some-clause-rest : goal.push_in_children-returns-in-Some-clause-rest
push_in_children-returns-in-Some-clause-rest g t' c =
    let same : c.push_here.new.rest ≡ c.args.rest.now = rw c.in-Some.is at c.in_ok-entry.ensures.rest in
    subst (λ (k : _). IsContinuation g.K.Continuation.done g.K.Continuation.kept k c.push_beside.new.rest c.push_beside.result) same c.push_beside.ensures.rest
