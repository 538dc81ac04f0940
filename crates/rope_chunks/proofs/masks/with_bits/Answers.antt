use Rattle.std.proofs.Common.{◌∙◌}
use Rattle.rope_chunks.proofs.masks.with_bits.Goals as goal
use Rattle.text_dims.proofs.Bits.{bits_more}

pub returns : goal.returns
returns c = λ p xs ys long few m b. bits_more p xs ys c.args.mask c.from.result c.args.at long few m (c.from.ensures ∙ b)
