use Rattle.std.proofs.Common.{◌≡◌, [], length, Vec, Global}
use Rattle.std.specs.List.{All}
use Rattle.snapshot_pub.specs.States.{ReaderState}
use Rattle.queries.specs.Queue.{pairs_of}
use Rattle.queries.proofs.opening.empty_readers.Given as goal

abbrev pub invariant-loop : goal.invariant-loop
invariant-loop l = record {
  count : length l.readers_by_worker.items ≡ l.counter;
  none : All (λ (c : Vec ReaderState Global). pairs_of c.items ≡ []) l.readers_by_worker.items;
}
