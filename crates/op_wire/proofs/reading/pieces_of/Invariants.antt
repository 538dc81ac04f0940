use Rattle.std.proofs.Common.{◌≡◌, ◌-◌, ◌≤◌}
use Rattle.op_wire.specs.Spelling.{limit}
use Rattle.op_wire.specs.Reading.{pieces_at}
use Rattle.op_wire.proofs.Loop.{with_front}
use Rattle.op_wire.proofs.reading.pieces_of.Given as goal

abbrev pub invariant-loop : goal.invariant-loop
invariant-loop l = record {
  room : l.so_far ≤ limit;
  read : with_front l.pieces.items (pieces_at (l.amount - l.counter) l.so_far l.rest) ≡ pieces_at l.amount 0 l.bytes;
}
