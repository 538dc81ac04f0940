use Rattle.std.proofs.Common.{rules, ◌≡◌, ℕ, ◌+◌, ◌-◌, ◌<◌, ◌≤◌, ◌++◌, List, [], length, take, drop, Option, None, All, sym, subst, ap, refl, ◌∙◌, arith}
use Rattle.std.proofs.lemmas.List.{append-nil, nil_from_length, drop_all, length-take-le}
use Rattle.std.proofs.lemmas.Result.{IfOk-weaker}
use Rattle.sum_tree.specs.Seen.{Seen}
use Rattle.sum_tree.specs.Shape.{IsChild, join_items}
use Rattle.sum_tree.specs.Grown.{pair_list, with_run}
use Rattle.sum_tree.specs.Spliced.{IsSpliced}
use Rattle.sum_tree.proofs.Pairs.{run_children, pair_few}
use Rattle.sum_tree.proofs.Splices.{run-joined, pair_none, split_spliced}
use Rattle.sum_tree.proofs.Widths.{run_length}
use Rattle.sum_tree.proofs.splice.with_children.Goals as goal

-- one child replaces both that a node has
one_for_all : {T : Type 0} (h : ℕ) (ts : List (Seen T)) (i j : ℕ) (a : Seen T) (b : Option (Seen T)) → b ≡ None → j - i ≡ length ts → i < j → j ≤ i + 2 → j ≤ length ts → All (IsChild h) (pair_list a b) → IsSpliced h (length ts) (join_items (with_run ts i j a b)) a None
one_for_all h ts i j a b none all order few within pair =
    let front : take i ts ≡ [] = nil_from_length (take i ts) (omega (arith, all, order, within, length-take-le i ts (omega (arith, order, within)))) in
    let back : drop j ts ≡ [] = drop_all j ts (omega (arith, all, order, within)) in
    let items : join_items (with_run ts i j a b) ≡ a.items = run-joined ts i j a b ∙ ap (λ us. join_items us ++ (join_items (pair_list a b) ++ join_items (drop j ts))) front ∙ ap (λ us. join_items (pair_list a b) ++ join_items us) back ∙ append-nil (join_items (pair_list a b)) ∙ pair_none a b none in
    let child : IsChild h a = subst (λ o. All (IsChild h) (pair_list a o)) none pair 0 a (omega arith) in
    (sym items, λ wide. absurd (omega (arith, wide, all, few)), child.narrow, λ wide. child.many)

pub returns-then-is_none-clause-spliced : goal.returns-then-is_none-clause-spliced
returns-then-is_none-clause-spliced g c =
    let none : c.args.back ≡ None = search rules in
    one_for_all c.args.height c.args.nodes.now c.args.from c.args.to c.args.front c.args.back none c.if-to-from.true c.requires.order c.requires.few c.requires.within c.requires.pair

pub inners-requires-clause-children : goal.inners-requires-clause-children
inners-requires-clause-children g c =
    rw c.in_ok-children.ensures (run_children c.args.height c.args.nodes.now c.args.from c.args.to c.args.front c.args.back c.requires.children c.requires.pair)

pub inners-requires-clause-most : goal.inners-requires-clause-most
inners-requires-clause-most g c =
    omega (arith, ap length c.in_ok-children.ensures, run_length c.args.nodes.now c.args.from c.args.to c.args.front c.args.back (omega (arith, c.requires.order)) c.requires.within, (pair_few c.args.front c.args.back).1, c.requires.most, c.requires.order)

pub inners-requires-clause-short : goal.inners-requires-clause-short
inners-requires-clause-short g c = rw c.in_ok-children.ensures c.requires.short

pub inners-requires-clause-fits : goal.inners-requires-clause-fits
inners-requires-clause-fits g c = rw c.in_ok-children.ensures c.requires.fits

pub returns-clause-spliced : goal.returns-clause-spliced
returns-clause-spliced g c =
    IfOk-weaker c.inners.result _ _ (λ p s. split_spliced c.args.height c.args.height (length c.in_ok-children.children.items) (length c.args.nodes.now) _ _ p.0 p.1 refl (ap join_items c.in_ok-children.ensures) s) c.inners.ensures.split
