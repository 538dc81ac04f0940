use Rattle.std.proofs.Common.{rules, ◌≡◌, ◌<◌, ◌≤◌, length, arith}
use Rattle.sum_tree.specs.Shape.{IsChild}
use Rattle.sum_tree.proofs.Children.{child_filled}
use Rattle.sum_tree.proofs.Opened.{IsInner, opened, last_is_child, end_of_child}
use Rattle.sum_tree.proofs.tree.SumTree.+end.Goals as goal

pub end-requires : goal.end-requires
end-requires g t' c κs within =
    let s = c.args.self.now in
    let ts = c.in-Inner.children.items in
    let t = c.index-in-Inner.result.now in
    let n = c.len-in-Inner.result in
    let o : IsInner s ts = opened s c.self.inside.node.value c.deref.result.now c.in-Inner.children c.self.view_is c.deref.ensures c.in-Inner.is c.self.invariant.0 in
    let len : n ≡ length ts = omega (arith, c.len-in-Inner.ensures, c.in-Inner.children.ok) in
    let child : IsChild s.height t = last_is_child s.height ts n t o.children len (omega (arith, o.least, len)) c.index-in-Inner.ensures in
    let filled : 1 ≤ length t.items = child_filled s.height t child in
    let lower : t.height < s.height = omega (arith, child.lower) in
    search rules

pub returns-in-Inner : goal.returns-in-Inner
returns-in-Inner g t' c d =
    let s = c.args.self.now in
    let ts = c.in-Inner.children.items in
    let t = c.index-in-Inner.result.now in
    let n = c.len-in-Inner.result in
    let o : IsInner s ts = opened s c.self.inside.node.value c.deref.result.now c.in-Inner.children c.self.view_is c.deref.ensures c.in-Inner.is c.self.invariant.0 in
    let len : n ≡ length ts = omega (arith, c.len-in-Inner.ensures, c.in-Inner.children.ok) in
    let child : IsChild s.height t = last_is_child s.height ts n t o.children len (omega (arith, o.least, len)) c.index-in-Inner.ensures in
    let filled : 1 ≤ length t.items = child_filled s.height t child in
    end_of_child s ts n t c.end.result.now d o len c.index-in-Inner.ensures filled (c.end.ensures d)
