use Rattle.std.proofs.Common.{◌≡◌, ℕ, None, ◌++◌, length, take, drop}
use Rattle.std.specs.List.{flat_map}
use Rattle.std.specs.Int.{w32, to_be_bytes}
use Rattle.op_wire.specs.Spelling.{piece, long_sum}
use Rattle.op_wire.proofs.encoding.put_pieces.Given as goal

abbrev pub invariant-loop-p : goal.invariant-loop-p
invariant-loop-p l = record {
  written : l.out.items ≡ l.fn.out.items ++ (to_be_bytes w32 (length l.ps) ++ flat_map piece (take l.p-index l.ps));
  short : (so_far : ℕ) × (long_sum so_far (drop l.p-index l.ps) ≡ None);
}
