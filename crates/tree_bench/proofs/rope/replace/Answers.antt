use Rattle.std.proofs.Common.{refl, arith}
use Rattle.std.proofs.lemmas.Grind.{common_steps}
use Rattle.tree_bench.proofs.rope.replace.Goals as goal

pub push_str-requires : goal.push_str-requires
push_str-requires c = omega (arith, c.len-3.ensures, c.if-len-lt-MOST.true, c.if-text-gt8.false)

pub same-rest : goal.same-rest
same-rest c = refl

pub append-requires-clause-front : goal.append-requires-clause-front
append-requires-clause-front c = grind (arith, common_steps)

pub append-requires-clause-part : goal.append-requires-clause-part
append-requires-clause-part c = grind (arith, common_steps)
