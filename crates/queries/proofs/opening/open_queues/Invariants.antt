use Rattle.std.proofs.Common.{◌≡◌, ◌+◌, ◌++◌, length, map, Vec, Global}
use Rattle.std.specs.List.{All}
use Rattle.std.specs.Vec.Iter.{into_iter_items, into_iter_len}
use Rattle.snapshot_pub.specs.States.{ReaderState}
use Rattle.queries.specs.Queue.{pairs_of}
use Rattle.queries.specs.Dealt.{AreEnds, pairs_in}
use Rattle.queries.proofs.Dealing.{IsFresh}
use Rattle.queries.proofs.opening.open_queues.Given as goal

abbrev pub invariant-loop-worker : goal.invariant-loop-worker
invariant-loop-worker g l = record {
  left : l.worker + into_iter_len l.readers_by_worker ≡ l.workers;
  pairs : pairs_in l.inboxes.items ++ map (λ (c : Vec ReaderState Global). pairs_of c.items) (into_iter_items l.readers_by_worker) ≡ map (λ (c : Vec ReaderState Global). pairs_of c.items) l.fn.readers_by_worker.items;
  many : length l.inboxes.items ≡ l.worker;
  ends : AreEnds l.inboxes.items l.desks.items;
  fresh : All (IsFresh l.room) l.inboxes.items;
}
