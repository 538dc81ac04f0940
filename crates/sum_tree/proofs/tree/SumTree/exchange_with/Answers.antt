use Rattle.std.proofs.Common.{rules, ◌^◌, ◌≤◌, List, Some, length, sym, subst}
use Rattle.std.proofs.Math.Nat.{add-sub_of_le}
use Rattle.sum_tree.specs.Laws.{fold}
use Rattle.sum_tree.proofs.Pairs.{split_root}
use Rattle.sum_tree.proofs.Ranges.{split_range}
use Rattle.sum_tree.proofs.tree.SumTree.exchange_with.Goals as goal

pub exchange_here-requires : goal.exchange_here-requires
exchange_here-requires g c =
    rw (add-sub_of_le c.requires.order) (search rules)

pub root-requires-clause-pair : goal.root-requires-clause-pair
root-requires-clause-pair g c =
    let split = rw c.in-Split.is at c.in_ok-exchange_here.ensures.placing in
    split_root c.args.self.now.height 0 _ c.in-Split.front c.in-Split.back split.1

pub root-requires-clause-short : goal.root-requires-clause-short
root-requires-clause-short g c =
    let split = rw c.in-Split.is at c.in_ok-exchange_here.ensures.placing in
    let made = split_range c.args.self.now.height 0 c.args.from c.args.to c.args.entries.items c.args.self.now.items c.in-Split.front (Some c.in-Split.back) c.requires.order split.1 in
    subst (λ (zs : List _). length zs ≤ 2 ^ 40) (sym made) c.requires.short

pub root-requires-clause-fits : goal.root-requires-clause-fits
root-requires-clause-fits g c =
    let split = rw c.in-Split.is at c.in_ok-exchange_here.ensures.placing in
    let made = split_range c.args.self.now.height 0 c.args.from c.args.to c.args.entries.items c.args.self.now.items c.in-Split.front (Some c.in-Split.back) c.requires.order split.1 in
    subst (λ (zs : List _). g.T.Summary.Summary.fits (fold g.T.Summary.Summary.empty g.T.Summary.Summary.op g.T.Item.sum_of zs)) (sym made) c.requires.fits

pub returns-in-Split-clause-ok : goal.returns-in-Split-clause-ok
returns-in-Split-clause-ok g c =
    let split = rw c.in-Split.is at c.in_ok-exchange_here.ensures.placing in
    let made = split_range c.args.self.now.height 0 c.args.from c.args.to c.args.entries.items c.args.self.now.items c.in-Split.front (Some c.in-Split.back) c.requires.order split.1 in
    rw (← made) (search rules)
