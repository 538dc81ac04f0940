use Rattle.std.specs.Str.{IsAscii}
use Rattle.tree_bench.proofs.rope.replace_all.Given as goal

abbrev pub invariant-loop : goal.invariant-loop
invariant-loop l = IsAscii l.rope
