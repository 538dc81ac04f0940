use Rattle.std.proofs.Common.{◌+◌, ◌++◌, ◌∙◌, drop, ap, sym, arith}
use Rattle.std.specs.List.{concat}
use Rattle.std.proofs.lemmas.Option.{slice_get_within}
use Rattle.rope_chunks.proofs.Changes.{behind_is}
use Rattle.rope_chunks.proofs.change.chunk_behind.Goals as goal

pub overflow_add-result : goal.overflow_add-result
overflow_add-result c = omega (arith, slice_get_within c.args.tree.now.items c.args.i c.in-Some.chunk.now (sym c.in-Some.ensures), c.known.ensures.short)

pub returns-then-text-len-le-CHUNK_BYTES-clause-within : goal.returns-then-text-len-le-CHUNK_BYTES-clause-within
returns-then-text-len-le-CHUNK_BYTES-clause-within c = omega (arith, slice_get_within c.args.tree.now.items c.args.i c.in-Some.chunk.now (sym c.in-Some.ensures))

pub returns-then-text-len-le-CHUNK_BYTES-clause-text : goal.returns-then-text-len-le-CHUNK_BYTES-clause-text
returns-then-text-len-le-CHUNK_BYTES-clause-text c =
    let cs = c.args.tree.now.items in
    ap (λ t. t ++ concat (drop (c.args.i + 1) cs)) c.as_str-text.ensures.value
    ∙ behind_is cs c.args.i c.in-Some.chunk.now (sym c.in-Some.ensures)
