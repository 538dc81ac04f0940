use Rattle.std.proofs.Common.{◌≡◌, true, false}
use Rattle.std.specs.Arc.{arc_value}
use Rattle.crossbeam_queue.specs.Passes.{view, IsPassOf}
use Rattle.queries.specs.Queue.{pairs_of, IsOpen}
use Rattle.queries.specs.Asks.{asks_of}
use Rattle.queries.specs.Answers.{HasAnswered}
use Rattle.queries.proofs.worker.work.Given as goal

abbrev pub invariant-loop : goal.invariant-loop
invariant-loop g l = record {
  own : IsPassOf (arc_value l.queue) l.pass;
  takes : (view l.pass).takes ≡ true;
  open_ : IsOpen (view l.pass).taken;
  tied : pairs_of l.readers.items ≡ pairs_of (view l.pass).readers;
  same : pairs_of l.readers.items ≡ pairs_of l.initial.readers.items;
  answered : l.failed ≡ false → HasAnswered g.Q.Query.plain (asks_of (view l.pass).taken) l.readers.items l.answers.items;
}
