use Rattle.std.proofs.Common.{◌≡◌, ◌-◌, ◌++◌, length, take, drop, refl, ap, ◌∙◌, arith, length-append}
use Rattle.std.proofs.Math.Nat.{add-sub_of_le}
use Rattle.sum_tree.specs.Spliced.{splice_list}
use Rattle.sum_tree.proofs.Widths.{spliced_root}
use Rattle.sum_tree.proofs.Splices.{fits_put, fits_new}
use Rattle.sum_tree.proofs.Heights.{of_ok}
use Rattle.sum_tree.proofs.Ranges.{spliced_range}
use Rattle.sum_tree.proofs.Returns.{not_returned}
use Rattle.sum_tree.proofs.tree.SumTree.with_splice.Goals as goal

pub from_entries-requires-clause-fits : goal.from_entries-requires-clause-fits
from_entries-requires-clause-fits g c =
    let back = rw c.in-Back.is at c.in_ok-front.ensures.splicing in
    rw back (fits_new g.met.T.Summary.Summary.laws g.T.Item.sum_of g.met.T.Item.admitted c.args.from c.args.to c.args.entries.items c.args.self.now.items c.requires.fits)

pub from_entries-requires-clause-short : goal.from_entries-requires-clause-short
from_entries-requires-clause-short g c =
    let back = rw c.in-Back.is at c.in_ok-front.ensures.splicing in
    rw back (omega (arith, length-append (take c.args.from c.args.self.now.items ++ c.args.entries.items) (drop c.args.to c.args.self.now.items), length-append (take c.args.from c.args.self.now.items) c.args.entries.items, c.requires.short))

pub spliced_leaf-requires-clause-short : goal.spliced_leaf-requires-clause-short
spliced_leaf-requires-clause-short g c =
    rw (add-sub_of_le c.requires.order) c.requires.short

pub spliced_leaf-requires-clause-fits : goal.spliced_leaf-requires-clause-fits
spliced_leaf-requires-clause-fits g c =
    rw (add-sub_of_le c.requires.order) c.requires.fits

pub both-requires-clause-short : goal.both-requires-clause-short
both-requires-clause-short g c =
    let back = rw c.in-Back.is at c.in_ok-front.ensures.splicing in
    rw (c.in_ok-front-in-Back.ensures.items, c.in_ok-middle-in-Back.ensures.items, back) (omega (arith, length-append (take c.args.from c.args.self.now.items ++ c.args.entries.items) (drop c.args.to c.args.self.now.items), c.requires.short))

pub both-requires-clause-fits : goal.both-requires-clause-fits
both-requires-clause-fits g c =
    let back = rw c.in-Back.is at c.in_ok-front.ensures.splicing in
    rw (c.in_ok-front-in-Back.ensures.items, c.in_ok-middle-in-Back.ensures.items, back) (fits_put g.met.T.Summary.Summary.laws g.T.Item.sum_of g.met.T.Item.admitted c.args.from c.args.to c.args.entries.items c.args.self.now.items c.requires.fits)

pub both-requires-in-Back-clause-short : goal.both-requires-in-Back-clause-short
both-requires-in-Back-clause-short g c =
    let back = rw c.in-Back.is at c.in_ok-front.ensures.splicing in
    rw (c.in_ok-whole-in-Back.ensures.items, c.in_ok-front-in-Back.ensures.items, c.in_ok-middle-in-Back.ensures.items, back, c.in_ok-rest-in-Back.ensures.items) c.requires.short

pub both-requires-in-Back-clause-fits : goal.both-requires-in-Back-clause-fits
both-requires-in-Back-clause-fits g c =
    let back = rw c.in-Back.is at c.in_ok-front.ensures.splicing in
    rw (c.in_ok-whole-in-Back.ensures.items, c.in_ok-front-in-Back.ensures.items, c.in_ok-middle-in-Back.ensures.items, back, c.in_ok-rest-in-Back.ensures.items) c.requires.fits

pub returns-in_ok-rest-in-Back-clause-items : goal.returns-in_ok-rest-in-Back-clause-items
returns-in_ok-rest-in-Back-clause-items g c =
    let back = rw c.in-Back.is at c.in_ok-front.ensures.splicing in
    let made : c.in_ok-whole-in-Back.whole.items ++ c.in_ok-rest-in-Back.rest.items ≡ splice_list c.args.from c.args.to c.args.entries.items c.args.self.now.items = rw (c.in_ok-whole-in-Back.ensures.items, c.in_ok-front-in-Back.ensures.items, c.in_ok-middle-in-Back.ensures.items, back, c.in_ok-rest-in-Back.ensures.items) refl in
    of_ok c.both-in-Back.result c.both-in-Back.ensures.items (λ z e. e ∙ made)

pub root-requires-clause-pair : goal.root-requires-clause-pair
root-requires-clause-pair g c =
    let done = rw c.in-Done.is at c.in_ok-front.ensures.splicing in
    spliced_root c.args.self.now.height c.args.self.now.width _ c.in-Done.front c.in-Done.back done

pub root-requires-clause-short : goal.root-requires-clause-short
root-requires-clause-short g c =
    let done = rw c.in-Done.is at c.in_ok-front.ensures.splicing in
    let made = spliced_range c.args.self.now.height c.args.self.now.width c.args.from c.args.to c.args.entries.items c.args.self.now.items c.in-Done.front c.in-Done.back c.requires.order done in
    rw made c.requires.short

pub root-requires-clause-fits : goal.root-requires-clause-fits
root-requires-clause-fits g c =
    let done = rw c.in-Done.is at c.in_ok-front.ensures.splicing in
    let made = spliced_range c.args.self.now.height c.args.self.now.width c.args.from c.args.to c.args.entries.items c.args.self.now.items c.in-Done.front c.in-Done.back c.requires.order done in
    rw made c.requires.fits

pub returns-in-Done-clause-items : goal.returns-in-Done-clause-items
returns-in-Done-clause-items g c =
    let done = rw c.in-Done.is at c.in_ok-front.ensures.splicing in
    let made = spliced_range c.args.self.now.height c.args.self.now.width c.args.from c.args.to c.args.entries.items c.args.self.now.items c.in-Done.front c.in-Done.back c.requires.order done in
    of_ok c.root.result c.root.ensures.items (λ t e. e ∙ made)

pub returns-in_err-middle-in-Back-clause-cost : goal.returns-in_err-middle-in-Back-clause-cost
returns-in_err-middle-in-Back-clause-cost g c =
    let back = rw c.in-Back.is at c.in_ok-front.ensures.splicing in
    omega (arith, ap length back, c.spliced_leaf.ensures.cost, c.in_ok-front-in-Back.ensures.height, c.in_ok-front-in-Back.ensures.low, c.from_entries.ensures.cost)

pub returns-in_err-whole-in-Back-clause-cost : goal.returns-in_err-whole-in-Back-clause-cost
returns-in_err-whole-in-Back-clause-cost g c =
    let back = rw c.in-Back.is at c.in_ok-front.ensures.splicing in
    omega (arith, ap length back, c.spliced_leaf.ensures.cost, c.in_ok-front-in-Back.ensures.height, c.in_ok-front-in-Back.ensures.low, c.from_entries.ensures.cost, c.in_ok-middle-in-Back.ensures.height, c.both.ensures.cost)

pub returns-in_err-rest-in-Back-clause-cost : goal.returns-in_err-rest-in-Back-clause-cost
returns-in_err-rest-in-Back-clause-cost g c =
    let back = rw c.in-Back.is at c.in_ok-front.ensures.splicing in
    omega (arith, ap length back, c.spliced_leaf.ensures.cost, c.in_ok-front-in-Back.ensures.height, c.in_ok-front-in-Back.ensures.low, c.from_entries.ensures.cost, c.in_ok-middle-in-Back.ensures.height, c.both.ensures.cost, c.in_ok-whole-in-Back.ensures.most, c.drop_front_counted.ensures.cost)

pub returns-in_ok-rest-in-Back-clause-cost : goal.returns-in_ok-rest-in-Back-clause-cost
returns-in_ok-rest-in-Back-clause-cost g c =
    let back = rw c.in-Back.is at c.in_ok-front.ensures.splicing in
    omega (arith, ap length back, c.spliced_leaf.ensures.cost, c.in_ok-front-in-Back.ensures.height, c.in_ok-front-in-Back.ensures.low, c.from_entries.ensures.cost, c.in_ok-middle-in-Back.ensures.height, c.both.ensures.cost, c.in_ok-whole-in-Back.ensures.most, c.in_ok-rest-in-Back.ensures.height, c.in_ok-rest-in-Back.ensures.low, c.both-in-Back.ensures.cost)

pub returns-in_err-front-in-Back-clause-narrow : goal.returns-in_err-front-in-Back-clause-narrow
returns-in_err-front-in-Back-clause-narrow g c = λ near few. absurd (not_returned (c.args.to - c.args.from) c.args.entries.items _ c.in-Back.entries c.in-Back.is c.in_ok-front.ensures.returned (omega (arith, near)) few)

pub returns-in_err-middle-in-Back-clause-narrow : goal.returns-in_err-middle-in-Back-clause-narrow
returns-in_err-middle-in-Back-clause-narrow g c = λ near few. absurd (not_returned (c.args.to - c.args.from) c.args.entries.items _ c.in-Back.entries c.in-Back.is c.in_ok-front.ensures.returned (omega (arith, near)) few)

pub returns-in_err-whole-in-Back-clause-narrow : goal.returns-in_err-whole-in-Back-clause-narrow
returns-in_err-whole-in-Back-clause-narrow g c = λ near few. absurd (not_returned (c.args.to - c.args.from) c.args.entries.items _ c.in-Back.entries c.in-Back.is c.in_ok-front.ensures.returned (omega (arith, near)) few)

pub returns-in_err-rest-in-Back-clause-narrow : goal.returns-in_err-rest-in-Back-clause-narrow
returns-in_err-rest-in-Back-clause-narrow g c = λ near few. absurd (not_returned (c.args.to - c.args.from) c.args.entries.items _ c.in-Back.entries c.in-Back.is c.in_ok-front.ensures.returned (omega (arith, near)) few)

pub returns-in_ok-rest-in-Back-clause-narrow : goal.returns-in_ok-rest-in-Back-clause-narrow
returns-in_ok-rest-in-Back-clause-narrow g c = λ near few. absurd (not_returned (c.args.to - c.args.from) c.args.entries.items _ c.in-Back.entries c.in-Back.is c.in_ok-front.ensures.returned (omega (arith, near)) few)
