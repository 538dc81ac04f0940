use Rattle.undo_map.proofs.NextCounts.{all_made}
use Rattle.undo_map.proofs.next.next_counts.Goals as goal

pub returns-clause-history : goal.returns-clause-history
returns-clause-history c = λ h q. all_made h c.args.undos.now c.args.edits.now c.loop-edit.edit-index c.loop-edit.counts.items c.new.result c.new.ensures c.loop-edit-test.false c.loop-edit.invariant.made q
