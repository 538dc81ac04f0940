use Rattle.std.proofs.Common.{take}
use Rattle.std.specs.List.{AllByRecursion}
use Rattle.op_wire.specs.Spelling.{IsCount}
use Rattle.op_wire.proofs.ranges.counts_fit.Given as goal

abbrev pub invariant-loop-c : goal.invariant-loop-c
invariant-loop-c l = AllByRecursion IsCount (take l.c-index l.cs)
