use Rattle.std.proofs.Common.{◌≡◌, ◌++◌, length, Vec, Global}
use Rattle.std.specs.Vec.Iter.{into_iter_items, into_iter_len}
use Rattle.snapshot_pub.specs.States.{ReaderState}
use Rattle.queries.specs.Queue.{pairs_of}
use Rattle.queries.specs.Dealt.{AllAt}
use Rattle.queries.specs.Published.{AreLevel, published_lists, rows_of}
use Rattle.queries.proofs.Readers.{HasColumn}
use Rattle.queries.proofs.opening.open_readers.Given as goal

abbrev pub invariant-loop-first : goal.invariant-loop-first
invariant-loop-first g l = record {
  level : AreLevel l.publishers;
  workers : l.publishers.workers ≡ l.fn.publishers.workers;
  many : length l.readers_by_worker.items ≡ l.fn.publishers.workers;
  published : published_lists l.publishers ++ into_iter_items l.firsts ≡ l.fn.firsts.items;
  each : AllAt (HasColumn (λ (c : Vec ReaderState Global). pairs_of c.items) (rows_of l.publishers)) l.readers_by_worker.items;
}

abbrev pub decreases-loop-first : goal.decreases-loop-first
decreases-loop-first g l = into_iter_len l.firsts
