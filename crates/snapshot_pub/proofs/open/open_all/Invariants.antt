use Rattle.std.proofs.Common.{◌≡◌, ◌≤◌, length, vec_capacity}
use Rattle.snapshot_pub.specs.Fields.{AreOpen}
use Rattle.snapshot_pub.proofs.open.open_all.Given as goal

abbrev pub invariant-loop-i : goal.invariant-loop-i
invariant-loop-i g l = record {
  sides : length l.sides.items ≡ l._i;
  readers : length l.ends.items ≡ l._i;
  room : l.readers ≤ vec_capacity l.sides;
  space : l.readers ≤ vec_capacity l.ends;
  open_ : AreOpen l.first l._i l.sides.items l.ends.items;
}
