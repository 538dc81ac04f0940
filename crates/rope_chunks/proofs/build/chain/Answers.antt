use Rattle.std.proofs.Common.{◌∙◌, ◌++◌, ap, sym, subst}
use Rattle.std.specs.List.{concat, All}
use Rattle.rope_chunks.specs.Chunks.{IsChunk, AreChunks}
use Rattle.std.proofs.lemmas.List.Folds.{concat-append}
use Rattle.rope_chunks.proofs.Grows.{are_beside}
use Rattle.rope_chunks.proofs.build.chain.Goals as goal

pub join-requires : goal.join-requires
join-requires c =
    rw (c.in_ok-whole.ensures, c.in_ok-share.ensures) (are_beside c.args.front.now.items c.args.back.now.items c.requires.front.each c.requires.back.each c.requires.few)

pub returns-clause-text : goal.returns-clause-text
returns-clause-text c =
    ap concat c.in_ok-join.ensures.ok
    ∙ rw (c.in_ok-whole.ensures, c.in_ok-share.ensures) (concat-append c.args.front.now.items c.args.back.now.items)

pub returns-clause-each : goal.returns-clause-each
returns-clause-each c =
    subst (λ xs. All IsChunk xs) (sym c.in_ok-join.ensures.ok)
    (let are : AreChunks (c.in_ok-whole.whole.items ++ c.in_ok-share.field-0.items) = rw (c.in_ok-whole.ensures, c.in_ok-share.ensures) (are_beside c.args.front.now.items c.args.back.now.items c.requires.front.each c.requires.back.each c.requires.few) in are.each)
