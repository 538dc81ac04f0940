use Rattle.std.proofs.Common.{◌≡◌, ◌+◌, List, length, drop, Vec, Global}
use Rattle.std.specs.Vec.Iter.{into_iter_items, into_iter_len}
use Rattle.logbook.specs.Pages.{Named}
use Rattle.snapshot_pub.specs.States.{ReaderState}
use Rattle.queries.specs.Queue.{pairs_of}
use Rattle.queries.specs.Dealt.{AllAt}
use Rattle.queries.proofs.Readers.{HasColumn, IsServed}
use Rattle.queries.proofs.opening.deal.Given as goal

abbrev pub invariant-loop-worker : goal.invariant-loop-worker
invariant-loop-worker l = record {
  count : length l.readers_by_worker.items ≡ length l.fn.readers_by_worker.items;
  left : l.worker + into_iter_len l.readers ≡ length l.fn.readers.items;
  rest : into_iter_items l.readers ≡ drop l.worker l.fn.readers.items;
  each : (rows : List (List Named)) → AllAt (HasColumn (λ (c : Vec ReaderState Global). pairs_of c.items) rows) l.fn.readers_by_worker.items
      → AllAt (IsServed (λ (c : Vec ReaderState Global). pairs_of c.items) rows (pairs_of l.fn.readers.items) l.worker) l.readers_by_worker.items;
}
