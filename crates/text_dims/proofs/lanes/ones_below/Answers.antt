use Rattle.std.proofs.Common.{◌∙◌, refl, arith}
use Rattle.std.proofs.lemmas.Nat.{one_shl, and_mask}
use Rattle.text_dims.proofs.lanes.ones_below.Goals as goal

pub returns-clause-value : goal.returns-clause-value
returns-clause-value c =
    c.from.ensures ∙ rw (one_shl c.args.len 64 (omega (arith, c.requires)), and_mask c.args.mask c.args.len) refl
