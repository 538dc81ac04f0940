use Rattle.std.proofs.Common.{◌≡◌, map}
use Rattle.std.specs.List.{All}
use Rattle.queries.specs.Dealt.{told_lists, told_pairs}
use Rattle.queries.specs.Published.{columns, published_lists, rows_of}
use Rattle.session_replay.proofs.beside.tell_workers.Given as goal

abbrev pub invariant-loop-worker : goal.invariant-loop-worker
invariant-loop-worker l = record {
  pairs : map told_pairs (map (λ t. t.items) l.tolds.items) ≡ columns l.worker (rows_of l.publishers);
  lists : All (λ t. told_lists t ≡ published_lists l.publishers) (map (λ t. t.items) l.tolds.items);
}
