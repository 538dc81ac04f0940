use Rattle.std.proofs.Common.{◌≡◌, ◌+◌, length, take}
use Rattle.std.specs.List.{concat}
use Rattle.sum_tree.specs.Shape.{join_items}
use Rattle.rope_chunks.proofs.spot.child_at.Given as goal

abbrev pub invariant-loop-k : goal.invariant-loop-k
invariant-loop-k l = record {
  count : l.count ≡ length (join_items (take l.k l.children));
  before : length (concat (join_items (take l.k l.children))) + l.rest ≡ l.offset;
}
