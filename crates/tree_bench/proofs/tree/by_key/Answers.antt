use Rattle.std.proofs.Common.{arith}
use Rattle.tree_bench.proofs.Inserts.{one_more}
use Rattle.tree_bench.proofs.tree.by_key.Goals as goal

pub insert-requires-clause-short : goal.insert-requires-clause-short
insert-requires-clause-short c = omega (arith, one_more (record { key = c.args.key }) c.args.tree.now.items, c.if-len-lt-MOST.true, c.len.ensures)
