use Rattle.std.proofs.Common.{◌≡◌, ◌+◌, ◌-◌, ◌++◌, take, drop, length, List, None, IfOk, sym, subst, refl, arith}
use Rattle.sum_tree.specs.Shape.{join_items, IsChild}
use Rattle.sum_tree.specs.Seen.{Seen}
use Rattle.sum_tree.specs.Grown.{with_pair, with_run}
use Rattle.sum_tree.specs.Spliced.{IsSpliced}
use Rattle.sum_tree.proofs.Pairs.{split_children}
use Rattle.sum_tree.proofs.Runs.{fits_middle}
use Rattle.sum_tree.proofs.Splices.{beside_left, joined_left}
use Rattle.sum_tree.proofs.splice.mend_left.Goals as goal

pub beside-requires-clause-fits : goal.beside-requires-clause-fits
beside-requires-clause-fits g c =
    let ts = c.args.nodes.now in
    let k = c.args.k in
    let t = c.index-nodes-k.result in
    let m = t.items ++ c.args.child.items in
    let r = join_items (drop (k + 1) ts) in
    fits_middle g.met.T.Summary.Summary.laws g.T.Item.sum_of g.met.T.Item.admitted (join_items (take (k - 1) ts)) (m ++ r) m r (join_items (with_pair ts k c.args.child None)) (sym (beside_left ts k t c.args.child None c.requires.past c.requires.within c.index-nodes-k.is refl)) refl c.requires.fits

pub with_children-requires-clause-pair : goal.with_children-requires-clause-pair
with_children-requires-clause-pair g c =
    let ts = c.args.nodes.now in
    let k = c.args.k in
    let t = c.index-nodes-k.result in
    let child : IsChild c.args.height t = subst (λ (u : Seen _). IsChild c.args.height u) (sym c.index-nodes-k.is) (c.requires.children (k - 1) t (omega (arith, c.requires.past, c.requires.within))) in
    split_children c.args.height t.height (t.width + c.args.child.width) (t.items ++ c.args.child.items) c.in_ok-front.front c.in_ok-front.back child.lower (omega (arith, child.wide)) c.in_ok-front.ensures.split

pub with_children-requires-clause-short : goal.with_children-requires-clause-short
with_children-requires-clause-short g c =
    let ts = c.args.nodes.now in
    let k = c.args.k in
    let t = c.index-nodes-k.result in
    let same : join_items (with_run ts (k - 1) (k + 1) c.in_ok-front.front c.in_ok-front.back) ≡ join_items (with_pair ts k c.args.child None) = joined_left ts k t.height (t.width + c.args.child.width) t c.args.child c.in_ok-front.front None c.in_ok-front.back c.requires.past c.requires.within c.index-nodes-k.is refl c.in_ok-front.ensures.split in
    rw same c.requires.short

pub with_children-requires-clause-fits : goal.with_children-requires-clause-fits
with_children-requires-clause-fits g c =
    let ts = c.args.nodes.now in
    let k = c.args.k in
    let t = c.index-nodes-k.result in
    let same : join_items (with_run ts (k - 1) (k + 1) c.in_ok-front.front c.in_ok-front.back) ≡ join_items (with_pair ts k c.args.child None) = joined_left ts k t.height (t.width + c.args.child.width) t c.args.child c.in_ok-front.front None c.in_ok-front.back c.requires.past c.requires.within c.index-nodes-k.is refl c.in_ok-front.ensures.split in
    rw same c.requires.fits

pub returns-clause-spliced : goal.returns-clause-spliced
returns-clause-spliced g c =
    let ts = c.args.nodes.now in
    let k = c.args.k in
    let t = c.index-nodes-k.result in
    let same : join_items (with_run ts (k - 1) (k + 1) c.in_ok-front.front c.in_ok-front.back) ≡ join_items (with_pair ts k c.args.child None) = joined_left ts k t.height (t.width + c.args.child.width) t c.args.child c.in_ok-front.front None c.in_ok-front.back c.requires.past c.requires.within c.index-nodes-k.is refl c.in_ok-front.ensures.split in
    subst (λ (zs : List _). IfOk c.with_children.result (λ p. IsSpliced c.args.height (length ts) zs p.0 p.1)) same c.with_children.ensures.spliced
