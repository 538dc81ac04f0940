use Rattle.std.proofs.Common.{sym, ap, ◌∙◌}
use Rattle.sum_tree.proofs.Folds.{last_fits, next_sum, next_fits}
use Rattle.sum_tree.proofs.around.entries_sum.Goals as goal

pub add_before-requires-clause-sum : goal.add_before-requires-clause-sum
add_before-requires-clause-sum g c =
    last_fits g.met.T.Summary.Summary.laws g.T.Item.sum_of g.met.T.Item.admitted c.args.entries.now c.in-Some.first.now c.in-Some.rest.now c.loop-entry.entry-index c.loop-entry.last.now c.loop-entry.sum c.sum.result.now c.in-Some.ensures.cases.0 c.requires.fits c.loop-entry.invariant c.sum.ensures

pub add_before-requires-clause-both : goal.add_before-requires-clause-both
add_before-requires-clause-both g c =
    next_fits g.met.T.Summary.Summary.laws g.T.Item.sum_of g.met.T.Item.admitted c.args.entries.now c.in-Some.first.now c.in-Some.rest.now c.loop-entry.entry-index c.entry-item.result c.loop-entry.last.now c.loop-entry.sum c.sum.result.now c.sum-in-loop-entry.result.now c.in-Some.ensures.cases.0 c.requires.fits c.loop-entry-test.true c.entry-item.is c.loop-entry.invariant c.sum.ensures c.sum-in-loop-entry.ensures

pub loop-entry-preserved : goal.loop-entry-preserved
loop-entry-preserved g c =
    ap (g.T.Summary.Summary.op c.add_before.new.self) (sym c.sum-in-loop-entry.ensures) ∙ c.in_ok-add_before.ensures.ok ∙ next_sum g.met.T.Summary.Summary.laws g.T.Item.sum_of g.met.T.Item.admitted c.in-Some.first.now c.in-Some.rest.now c.loop-entry.entry-index c.entry-item.result c.loop-entry.last.now c.loop-entry.sum c.sum.result.now c.sum-in-loop-entry.result.now c.loop-entry-test.true c.entry-item.is c.loop-entry.invariant c.sum.ensures c.sum-in-loop-entry.ensures
