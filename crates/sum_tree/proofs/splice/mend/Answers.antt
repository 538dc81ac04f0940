use Rattle.std.proofs.Common.{rules, ◌≡◌, ◌^◌, ◌≤◌, ℕ, Option, None, IfOk, length, sym, subst, arith}
use Rattle.sum_tree.specs.Laws.{fold}
use Rattle.sum_tree.specs.Seen.{Seen}
use Rattle.sum_tree.specs.Shape.{join_items}
use Rattle.sum_tree.specs.Grown.{with_pair}
use Rattle.sum_tree.specs.Spliced.{IsPiece, IsSpliced}
use Rattle.sum_tree.proofs.splice.mend.Goals as goal

pub mend_left-requires-clause-piece : goal.mend_left-requires-clause-piece
mend_left-requires-clause-piece g c =
    let none : c.args.back ≡ None = search rules in
    subst (λ (b : Option (Seen _)). IsPiece c.args.height c.args.front b) none c.requires.pair

pub mend_left-requires-clause-short : goal.mend_left-requires-clause-short
mend_left-requires-clause-short g c =
    let none : c.args.back ≡ None = search rules in
    subst (λ (b : Option (Seen _)). length (join_items (with_pair c.args.nodes.now c.args.k c.args.front b)) ≤ 2 ^ 40) none c.requires.short

pub mend_left-requires-clause-fits : goal.mend_left-requires-clause-fits
mend_left-requires-clause-fits g c =
    let none : c.args.back ≡ None = search rules in
    subst (λ (b : Option (Seen _)). g.T.Summary.Summary.fits (fold g.T.Summary.Summary.empty g.T.Summary.Summary.op g.T.Item.sum_of (join_items (with_pair c.args.nodes.now c.args.k c.args.front b)))) none c.requires.fits

pub mend_right-requires-clause-piece : goal.mend_right-requires-clause-piece
mend_right-requires-clause-piece g c =
    let none : c.args.back ≡ None = search rules in
    subst (λ (b : Option (Seen _)). IsPiece c.args.height c.args.front b) none c.requires.pair

pub mend_right-requires-clause-short : goal.mend_right-requires-clause-short
mend_right-requires-clause-short g c =
    let none : c.args.back ≡ None = search rules in
    let zero : c.args.k ≡ 0 = omega (arith, c.if-k-gt0.false) in
    subst (λ (k : ℕ). length (join_items (with_pair c.args.nodes.now k c.args.front None)) ≤ 2 ^ 40) zero (subst (λ (b : Option (Seen _)). length (join_items (with_pair c.args.nodes.now c.args.k c.args.front b)) ≤ 2 ^ 40) none c.requires.short)

pub mend_right-requires-clause-fits : goal.mend_right-requires-clause-fits
mend_right-requires-clause-fits g c =
    let none : c.args.back ≡ None = search rules in
    let zero : c.args.k ≡ 0 = omega (arith, c.if-k-gt0.false) in
    subst (λ (k : ℕ). g.T.Summary.Summary.fits (fold g.T.Summary.Summary.empty g.T.Summary.Summary.op g.T.Item.sum_of (join_items (with_pair c.args.nodes.now k c.args.front None)))) zero (subst (λ (b : Option (Seen _)). g.T.Summary.Summary.fits (fold g.T.Summary.Summary.empty g.T.Summary.Summary.op g.T.Item.sum_of (join_items (with_pair c.args.nodes.now c.args.k c.args.front b)))) none c.requires.fits)

pub returns-then-k-gt0-clause-spliced : goal.returns-then-k-gt0-clause-spliced
returns-then-k-gt0-clause-spliced g c =
    let none : c.args.back ≡ None = search rules in
    subst (λ (b : Option (Seen _)). IfOk c.mend_left.result (λ p. IsSpliced c.args.height (length c.args.nodes.now) (join_items (with_pair c.args.nodes.now c.args.k c.args.front b)) p.0 p.1)) (sym none) c.mend_left.ensures.spliced

pub returns-clause-spliced : goal.returns-clause-spliced
returns-clause-spliced g c =
    let none : c.args.back ≡ None = search rules in
    let zero : c.args.k ≡ 0 = omega (arith, c.if-k-gt0.false) in
    subst (λ (b : Option (Seen _)). IfOk c.mend_right.result (λ p. IsSpliced c.args.height (length c.args.nodes.now) (join_items (with_pair c.args.nodes.now c.args.k c.args.front b)) p.0 p.1)) (sym none) (subst (λ (k : ℕ). IfOk c.mend_right.result (λ p. IsSpliced c.args.height (length c.args.nodes.now) (join_items (with_pair c.args.nodes.now k c.args.front None)) p.0 p.1)) (sym zero) c.mend_right.ensures.spliced)
