use Rattle.std.proofs.Common.{◌∙◌, ◌++◌, ap, sym, subst}
use Rattle.std.specs.List.{concat, All}
use Rattle.rope_chunks.specs.Chunks.{IsChunk, AreChunks}
use Rattle.rope_chunks.proofs.Grows.{block_beside, block_text}
use Rattle.rope_chunks.proofs.build.push_block.Goals as goal

pub join-requires : goal.join-requires
join-requires c =
    rw c.in_ok-block.ensures
    (block_beside c.args.chunks.now.items c.cut_block.new.chunks.items c.args.text.now c.in_ok-rest.rest.now c.in_ok-rest.ensures.text c.requires.few c.requires.each c.in_ok-rest.ensures.each)

pub returns-clause-text : goal.returns-clause-text
returns-clause-text c =
    ap (λ xs. concat xs ++ c.in_ok-rest.rest.now) c.in_ok-join.ensures.ok
    ∙ rw c.in_ok-block.ensures (block_text c.args.chunks.now.items c.cut_block.new.chunks.items c.args.text.now c.in_ok-rest.rest.now c.in_ok-rest.ensures.text)

pub returns-clause-each : goal.returns-clause-each
returns-clause-each c =
    let are : AreChunks (c.args.chunks.now.items ++ c.in_ok-block.block.items) =
    rw c.in_ok-block.ensures
    (block_beside c.args.chunks.now.items c.cut_block.new.chunks.items c.args.text.now c.in_ok-rest.rest.now c.in_ok-rest.ensures.text c.requires.few c.requires.each c.in_ok-rest.ensures.each) in
    subst (λ xs. All IsChunk xs) (sym c.in_ok-join.ensures.ok) are.each
