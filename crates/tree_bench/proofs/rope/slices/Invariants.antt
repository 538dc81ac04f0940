use Rattle.std.specs.Str.{IsAscii}
use Rattle.tree_bench.proofs.rope.slices.Given as goal

abbrev pub invariant-loop : goal.invariant-loop
invariant-loop l = IsAscii l.whole
