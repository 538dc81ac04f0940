use Rattle.queries.proofs.open.open_queue.Given as goal

abbrev pub ghosts-split : goal.ghosts-split
ghosts-split g a = record { readers = a._readers.now.items }
