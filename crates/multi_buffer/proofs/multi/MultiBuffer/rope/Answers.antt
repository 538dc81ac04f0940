use Rattle.std.proofs.Common.{arith}
use Rattle.std.proofs.lemmas.Bool.Decides.{nat_tests}
use Rattle.multi_buffer.proofs.multi.MultiBuffer.rope.Goals as goal

pub whole_rope-requires : goal.whole_rope-requires
whole_rope-requires c = let t = c.if-len-gt-LONGEST_ROPE.false in let l = c.len.ensures in grind (arith, nat_tests, t, l)
