use Rattle.std.proofs.Common.{sym, ap, ◌∙◌}
use Rattle.fragments.specs.Index.{entry_or}
use Rattle.fragments.proofs.Beside.{found_next}
use Rattle.fragments.proofs.index.entry_for.Goals as goal

pub loop-entry-preserved : goal.loop-entry-preserved
loop-entry-preserved c =
    let next = found_next c.args.stamp c.args.offset c.args.recent.now c.args.entries.now.items c.requires c.loop-entry.entry-index c.entry-item.result c.entry-item.is c.loop-entry-test.true in
    c.nearer-found.ensures ∙ ap (entry_or c.args.stamp c.args.offset c.entry-item.result) c.loop-entry.invariant ∙ sym next
