use Rattle.std.proofs.Common.{◌≡◌, ◌-◌, ◌<◌, ◌≤◌, take, drop}
use Rattle.std.specs.List.{concat}
use Rattle.snapshot_search.specs.Progress.{Holds}
use Rattle.snapshot_search.proofs.between.read_chunks.Given as goal

abbrev pub invariant-loop-chunk : goal.invariant-loop-chunk
invariant-loop-chunk l = record {
  within : l.left ≤ l.count;
  holds : Holds l.needle (take (l.count - l.left) (concat l.fn.chunks)) l.initial.progress l.progress l.window.items;
  rest : 0 < l.left → concat l.chunk-iterator ≡ drop (l.count - l.left) (concat l.fn.chunks);
}
