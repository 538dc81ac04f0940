use Rattle.undo_map.proofs.map.UndoMap.with_undo.Goals as goal

pub put_undo-requires : goal.put_undo-requires
put_undo-requires c = rw c.in_ok-map.ensures c.requires

pub returns-clause-counts : goal.returns-clause-counts
returns-clause-counts c = rw (← c.in_ok-map.ensures) c.put_undo.ensures.counts

pub returns-clause-history : goal.returns-clause-history
returns-clause-history c = rw (← c.in_ok-map.ensures) c.put_undo.ensures.history
