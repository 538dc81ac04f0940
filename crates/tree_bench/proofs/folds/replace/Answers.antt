use Rattle.std.proofs.Common.{arith}
use Rattle.sum_tree.specs.Spliced.{splice_list}
use Rattle.fold_spans.proofs.Sums.{AreSpans-splice, text_sum-splice}
use Rattle.fold_spans.proofs.Thrice.{shown_at_most_thrice}
use Rattle.tree_bench.proofs.folds.replace.Goals as goal

pub replace-requires-clause-text : goal.replace-requires-clause-text
replace-requires-clause-text c = omega (arith, text_sum-splice c.args.run.from c.args.run.to c.args.made.items c.args.spans.now c.if-run.false)

pub replace-requires-clause-shown : goal.replace-requires-clause-shown
replace-requires-clause-shown c =
    let all = splice_list c.args.run.from c.args.run.to c.args.made.items c.args.spans.now in
    let spans = AreSpans-splice c.args.run.from c.args.run.to c.args.made.items c.args.spans.now c.requires.spans c.known.ensures.spans in
    omega (arith, text_sum-splice c.args.run.from c.args.run.to c.args.made.items c.args.spans.now c.if-run.false, shown_at_most_thrice all spans)
