use Rattle.std.proofs.Common.{◌∙◌, refl}
use Rattle.rope_chunks.proofs.rope.Rope.from_str.Goals as goal

pub same-chunks : goal.same-chunks
same-chunks c = refl

pub loop-rest-smaller : goal.loop-rest-smaller
loop-rest-smaller c = c.in_ok-rest.ensures.shorter

pub loop-rest-preserved : goal.loop-rest-preserved
loop-rest-preserved c =
    (c.in_ok-rest.ensures.rest, c.in_ok-rest.ensures.text ∙ c.loop-rest.invariant.1, c.in_ok-rest.ensures.each)
