use Rattle.std.proofs.Common.{◌∙◌, take, drop, ap, sym, subst}
use Rattle.std.specs.Str.{IsCharBoundary}
use Rattle.rope_chunks.proofs.Changes.{part_is, part_boundary}
use Rattle.rope_chunks.proofs.rope.Rope.slice.Goals as goal

pub from_on-requires-clause-start : goal.from_on-requires-clause-start
from_on-requires-clause-start c =
    subst (λ bs. IsCharBoundary bs c.args.start) (sym (c.in_ok-front.ensures.text ∙ ap (take c.args.end) c.self.view_is))
    (part_boundary c.args.self.now c.args.start c.args.end c.requires.order c.requires.start c.requires.end)

pub invariant_of-result : goal.invariant_of-result
invariant_of-result c = c.in_ok-chunks.ensures.chunks

pub returns : goal.returns
returns c =
    c.in_ok-chunks.ensures.text
    ∙ ap (drop c.args.start) (c.in_ok-front.ensures.text ∙ ap (take c.args.end) c.self.view_is)
    ∙ part_is c.args.self.now c.args.start c.args.end c.requires.order

pub from_on-requires-clause-chunks : goal.from_on-requires-clause-chunks
from_on-requires-clause-chunks c = c.in_ok-front.ensures.chunks
