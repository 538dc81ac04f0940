use Rattle.std.proofs.Common.{rules, ◌≡◌, ◌+◌, ◌<◌, ◌≤◌, length, true, false, sym, subst, arith}
use Rattle.sum_tree.specs.Seen.{Seen}
use Rattle.sum_tree.proofs.Children.{step_len, joined-take_le}
use Rattle.sum_tree.proofs.Keys.{child_ascending, child_behind, child_before}
use Rattle.sum_tree.proofs.keyed.child_for.Goals as goal

pub ends_before-requires-clause-ascending : goal.ends_before-requires-clause-ascending
ends_before-requires-clause-ascending g c =
    let ts = c.args.children.now in
    let lt : c.loop-k.k < length ts = omega (arith, c.loop-k-test.true) in
    child_ascending g.T.Key.Ord.cmp g.T.KeyedItem.key_of g.met.T.Key.Ord.total ts c.loop-k.k c.index-children-k.result c.requires.ascending lt c.index-children-k.is

pub returns-then-not-ends_before-clause-behind : goal.returns-then-not-ends_before-clause-behind
returns-then-not-ends_before-clause-behind g c =
    let ts = c.args.children.now in
    let j = c.loop-k.k in
    let t = c.index-children-k.result in
    let lt : j < length ts = omega (arith, c.loop-k-test.true) in
    let filled : 1 ≤ length t.items = subst (λ (u : Seen _). 1 ≤ length u.items) (sym c.index-children-k.is) (c.requires.filled j t lt) in
    let no : c.ends_before.result ≡ false = search rules in
    child_behind g.T.Key.Ord.cmp g.T.KeyedItem.key_of g.met.T.Key.Ord.total c.args.key.now ts j t c.ends_before.result c.requires.ascending lt c.index-children-k.is filled c.ends_before.ensures no

pub overflow_add-before : goal.overflow_add-before
overflow_add-before g c =
    let ts = c.args.children.now in
    let j = c.loop-k.k in
    let t = c.index-children-k-in-loop-k.result in
    let lt : j < length ts = omega (arith, c.loop-k-test.true) in
    omega (arith, step_len ts j t c.loop-k.before c.len-before.result lt c.index-children-k-in-loop-k.is c.loop-k.invariant.0 c.len-before.ensures, joined-take_le ts (j + 1), c.requires.short)

pub loop-k-preserved : goal.loop-k-preserved
loop-k-preserved g c =
    let ts = c.args.children.now in
    let j = c.loop-k.k in
    let t = c.index-children-k.result in
    let lt : j < length ts = omega (arith, c.loop-k-test.true) in
    let filled : 1 ≤ length t.items = subst (λ (u : Seen _). 1 ≤ length u.items) (sym c.index-children-k.is) (c.requires.filled j t lt) in
    let yes : c.ends_before.result ≡ true = search rules in (
      step_len ts j c.index-children-k-in-loop-k.result c.loop-k.before c.len-before.result lt c.index-children-k-in-loop-k.is c.loop-k.invariant.0 c.len-before.ensures,
      child_before g.T.Key.Ord.cmp g.T.KeyedItem.key_of g.met.T.Key.Ord.total c.args.key.now ts j t c.ends_before.result c.requires.ascending lt c.index-children-k.is filled c.ends_before.ensures yes c.loop-k.invariant.1,
    )
