use Rattle.std.proofs.Common.{◌-◌, ◌++◌, ◌∙◌, take, ap, sym}
use Rattle.std.specs.List.{concat}
use Rattle.rope_chunks.proofs.Changes.{before_is}
use Rattle.rope_chunks.proofs.change.chunk_before.Goals as goal

pub returns-then-text-len-le-CHUNK_BYTES-clause-text : goal.returns-then-text-len-le-CHUNK_BYTES-clause-text
returns-then-text-len-le-CHUNK_BYTES-clause-text c =
    let cs = c.args.tree.now.items in
    ap (λ t. concat (take (c.args.i - 1) cs) ++ t) c.as_str-text.ensures.value
    ∙ before_is cs c.args.i c.in-Some.chunk.now c.if-i-gt0.true (sym c.in-Some.ensures)
