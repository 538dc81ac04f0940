use Rattle.std.proofs.Common.{◌≡◌, ◌+◌, ◌++◌, drop, length, List, None, IfOk, sym, subst, refl, arith}
use Rattle.sum_tree.specs.Laws.{fold}
use Rattle.sum_tree.specs.Shape.{join_items, IsChild}
use Rattle.sum_tree.specs.Seen.{Seen}
use Rattle.sum_tree.specs.Grown.{with_pair, with_run}
use Rattle.sum_tree.specs.Spliced.{IsSpliced}
use Rattle.sum_tree.proofs.Folds.{fits_left}
use Rattle.sum_tree.proofs.Pairs.{split_children}
use Rattle.sum_tree.proofs.Splices.{beside_right, joined_right}
use Rattle.sum_tree.proofs.splice.mend_right.Goals as goal

pub beside-requires-clause-fits : goal.beside-requires-clause-fits
beside-requires-clause-fits g c =
    let ts = c.args.nodes.now in
    let t = c.index-nodes-1.result in
    let m = c.args.child.items ++ t.items in
    fits_left g.met.T.Summary.Summary.laws g.T.Item.sum_of g.met.T.Item.admitted m (join_items (drop 2 ts)) (subst (λ (zs : List _). g.T.Summary.Summary.fits (fold g.T.Summary.Summary.empty g.T.Summary.Summary.op g.T.Item.sum_of zs)) (beside_right ts 0 t c.args.child None refl c.requires.least c.index-nodes-1.is refl) c.requires.fits)

pub with_children-requires-clause-pair : goal.with_children-requires-clause-pair
with_children-requires-clause-pair g c =
    let ts = c.args.nodes.now in
    let t = c.index-nodes-1.result in
    let child : IsChild c.args.height t = subst (λ (u : Seen _). IsChild c.args.height u) (sym c.index-nodes-1.is) (c.requires.children 1 t (omega (arith, c.requires.least))) in
    split_children c.args.height c.args.child.height (c.args.child.width + t.width) (c.args.child.items ++ t.items) c.in_ok-front.front c.in_ok-front.back c.requires.piece.0 (omega (arith, child.wide)) c.in_ok-front.ensures.split

pub with_children-requires-clause-short : goal.with_children-requires-clause-short
with_children-requires-clause-short g c =
    let ts = c.args.nodes.now in
    let t = c.index-nodes-1.result in
    let same : join_items (with_run ts 0 2 c.in_ok-front.front c.in_ok-front.back) ≡ join_items (with_pair ts 0 c.args.child None) = joined_right ts 0 c.args.child.height (c.args.child.width + t.width) t c.args.child c.in_ok-front.front None c.in_ok-front.back refl c.requires.least c.index-nodes-1.is refl c.in_ok-front.ensures.split in
    rw same c.requires.short

pub with_children-requires-clause-fits : goal.with_children-requires-clause-fits
with_children-requires-clause-fits g c =
    let ts = c.args.nodes.now in
    let t = c.index-nodes-1.result in
    let same : join_items (with_run ts 0 2 c.in_ok-front.front c.in_ok-front.back) ≡ join_items (with_pair ts 0 c.args.child None) = joined_right ts 0 c.args.child.height (c.args.child.width + t.width) t c.args.child c.in_ok-front.front None c.in_ok-front.back refl c.requires.least c.index-nodes-1.is refl c.in_ok-front.ensures.split in
    rw same c.requires.fits

pub returns-clause-spliced : goal.returns-clause-spliced
returns-clause-spliced g c =
    let ts = c.args.nodes.now in
    let t = c.index-nodes-1.result in
    let same : join_items (with_run ts 0 2 c.in_ok-front.front c.in_ok-front.back) ≡ join_items (with_pair ts 0 c.args.child None) = joined_right ts 0 c.args.child.height (c.args.child.width + t.width) t c.args.child c.in_ok-front.front None c.in_ok-front.back refl c.requires.least c.index-nodes-1.is refl c.in_ok-front.ensures.split in
    subst (λ (zs : List _). IfOk c.with_children.result (λ p. IsSpliced c.args.height (length ts) zs p.0 p.1)) same c.with_children.ensures.spliced
