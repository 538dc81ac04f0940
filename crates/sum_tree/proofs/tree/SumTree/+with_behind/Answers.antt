use Rattle.std.proofs.Common.{rules, ◌≤◌, ◌<◌, ◌^◌, ◌++◌, length, arith, ◌∙◌, length-append}
use Rattle.sum_tree.proofs.Opened.{opened, grown_last}
use Rattle.sum_tree.proofs.Ends.{last_of, last_length, last_fits}
use Rattle.sum_tree.proofs.tree.SumTree.+with_behind.Goals as goal

pub with_behind-requires : goal.with_behind-requires
with_behind-requires g t c κs =
    let inner = opened _ _ _ _ c.self.view_is c.deref.ensures c.in-Inner.is c.self.invariant.0 in
    let last = last_of inner (c.len-last.ensures ∙ c.in-Inner.nodes.ok.0) c.index.ensures in
    let lower : c.index.result.now.height < c.args.self.now.height = omega (arith, last.child.lower) in
    let short : length (c.index.result.now.items ++ c.args.other.now.items) ≤ 2 ^ 40 = omega (arith, last_length last, length-append c.index.result.now.items c.args.other.now.items, length-append c.args.self.now.items c.args.other.now.items, c.requires.short) in
    let fits = last_fits g.met.T.Summary.Summary.laws g.T.Item.sum_of g.met.T.Item.admitted c.args.other.now.items last c.requires.fits in
    search rules

pub with_child-requires-clause-short : goal.with_child-requires-clause-short
with_child-requires-clause-short g t c =
    let inner = opened _ _ _ _ c.self.view_is c.deref.ensures c.in-Inner.is c.self.invariant.0 in
    let last = last_of inner (c.len-last.ensures ∙ c.in-Inner.nodes.ok.0) c.index.ensures in
    let grown = grown_last c.args.self.now c.in-Inner.nodes.items c.args.other.now.items c.len-last.result c.index.result.now c.index.result.now.width c.in_ok-front-in-Inner.front c.in_ok-front-in-Inner.back inner last.len last.read c.in_ok-front-in-Inner.ensures.split in
    rw (c.deref-in-Inner-2.ensures.value, grown) c.requires.short

pub with_child-requires-clause-fits : goal.with_child-requires-clause-fits
with_child-requires-clause-fits g t c =
    let inner = opened _ _ _ _ c.self.view_is c.deref.ensures c.in-Inner.is c.self.invariant.0 in
    let last = last_of inner (c.len-last.ensures ∙ c.in-Inner.nodes.ok.0) c.index.ensures in
    let grown = grown_last c.args.self.now c.in-Inner.nodes.items c.args.other.now.items c.len-last.result c.index.result.now c.index.result.now.width c.in_ok-front-in-Inner.front c.in_ok-front-in-Inner.back inner last.len last.read c.in_ok-front-in-Inner.ensures.split in
    rw (c.deref-in-Inner-2.ensures.value, grown) c.requires.fits

pub returns-clause-split : goal.returns-clause-split
returns-clause-split g t c =
    let inner = opened _ _ _ _ c.self.view_is c.deref.ensures c.in-Inner.is c.self.invariant.0 in
    let last = last_of inner (c.len-last.ensures ∙ c.in-Inner.nodes.ok.0) c.index.ensures in
    let grown = grown_last c.args.self.now c.in-Inner.nodes.items c.args.other.now.items c.len-last.result c.index.result.now c.index.result.now.width c.in_ok-front-in-Inner.front c.in_ok-front-in-Inner.back inner last.len last.read c.in_ok-front-in-Inner.ensures.split in
    rw (inner.width, ← grown, ← c.deref-in-Inner-2.ensures.value) (search rules)

pub returns-in_err-front-in-Inner-clause-cost : goal.returns-in_err-front-in-Inner-clause-cost
returns-in_err-front-in-Inner-clause-cost g t c =
    let inner = opened _ _ _ _ c.self.view_is c.deref.ensures c.in-Inner.is c.self.invariant.0 in
    let last = last_of inner (c.len-last.ensures ∙ c.in-Inner.nodes.ok.0) c.index.ensures in
    omega (arith, last.child.lower, c.with_behind.ensures.cost)

pub returns-clause-cost : goal.returns-clause-cost
returns-clause-cost g t c =
    let inner = opened _ _ _ _ c.self.view_is c.deref.ensures c.in-Inner.is c.self.invariant.0 in
    let last = last_of inner (c.len-last.ensures ∙ c.in-Inner.nodes.ok.0) c.index.ensures in
    omega (arith, last.child.lower, c.with_behind.ensures.cost, c.with_child.ensures.cost)
