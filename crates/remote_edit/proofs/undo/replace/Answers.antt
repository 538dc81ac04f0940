use Rattle.std.proofs.Common.{◌≡◌, ◌+◌, ◌≤◌, ◌^◌, List, length, subst, sym, ap, arith}
use Rattle.sum_tree.specs.Laws.{fold}
use Rattle.sum_tree.specs.Spliced.{splice_list}
use Rattle.sum_tree.proofs.Lists.{spliced_long}
use Rattle.fragments.specs.declared.fragment.Fragment.{Fragment}
use Rattle.fragments.specs.Summaries.{no_fragments, summaries, summary_of, SummaryFits}
use Rattle.remote_edit.proofs.undo.replace.Goals as goal

pub exchange_counted-requires-clause-short : goal.exchange_counted-requires-clause-short
exchange_counted-requires-clause-short g c =
    let l = spliced_long c.args.i c.args.fragments.now.items c.args.fragment c.requires.within in
    let k = c.known.ensures.short in
    subst (λ (z : List Fragment). length (splice_list c.args.i (c.args.i + 1) z c.args.fragments.now.items) ≤ 2 ^ 40) (sym c.in_ok-one.ensures) (omega (arith, l, k))

pub exchange_counted-requires-clause-fits : goal.exchange_counted-requires-clause-fits
exchange_counted-requires-clause-fits g c = subst (λ (z : List Fragment). SummaryFits (fold no_fragments summaries summary_of (splice_list c.args.i (c.args.i + 1) z c.args.fragments.now.items))) (sym c.in_ok-one.ensures) c.requires.fits

pub returns-clause-cost : goal.returns-clause-cost
returns-clause-cost g c =
    let low = c.known.ensures.low in
    let one : length c.in_ok-one.one.items ≡ 1 = ap length c.in_ok-one.ensures in
    let k = c.exchange_counted.ensures.narrow (omega arith) (omega (arith, one)) in omega (arith, low, k)
