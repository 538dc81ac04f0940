use Rattle.std.proofs.Common.{Vec, Global}
use Rattle.snapshot_pub.specs.States.{ReaderState}
use Rattle.queries.specs.Queue.{pairs_of}
use Rattle.queries.specs.Published.{rows_of}
use Rattle.queries.proofs.Readers.{readers_columns}
use Rattle.queries.proofs.opening.open_readers.Goals as goal

pub returns-clause-pairs : goal.returns-clause-pairs
returns-clause-pairs g c =
    let loop = c.loop-first in
    readers_columns (λ (v : Vec ReaderState Global). pairs_of v.items) (rows_of loop.publishers) loop.readers_by_worker.items c.args.publishers.now.workers loop.invariant.many loop.invariant.each
