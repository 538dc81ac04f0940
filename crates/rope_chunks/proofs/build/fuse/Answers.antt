use Rattle.std.proofs.Common.{◌∙◌, ap, sym, subst}
use Rattle.std.specs.List.{concat, All}
use Rattle.rope_chunks.specs.Chunks.{IsChunk}
use Rattle.rope_chunks.proofs.Grows.{chunk_at, first_few, rest_are, rest_text}
use Rattle.rope_chunks.proofs.build.fuse.Goals as goal

pub with_seam-requires-clause-next : goal.with_seam-requires-clause-next
with_seam-requires-clause-next c = chunk_at c.args.back.now.items 0 c.args.first.now c.requires.back.each c.requires.first

pub with_seam-requires-clause-few : goal.with_seam-requires-clause-few
with_seam-requires-clause-few c = first_few c.args.front.now.items c.args.back.now.items c.args.first.now c.requires.first c.requires.few

pub join-requires : goal.join-requires
join-requires c =
    rw c.in_ok-drop_front.ensures
    (rest_are c.args.front.now.items c.args.back.now.items c.in_ok-whole.whole.items c.args.first.now c.requires.first c.in_ok-whole.ensures.text c.in_ok-whole.ensures.each c.requires.back.each c.requires.few)

pub returns-clause-text : goal.returns-clause-text
returns-clause-text c =
    ap concat c.in_ok-join.ensures.ok
    ∙ rw c.in_ok-drop_front.ensures (rest_text c.args.front.now.items c.args.back.now.items c.in_ok-whole.whole.items c.args.first.now c.requires.first c.in_ok-whole.ensures.text)

pub returns-clause-each : goal.returns-clause-each
returns-clause-each c =
    let are = rest_are c.args.front.now.items c.args.back.now.items c.in_ok-whole.whole.items c.args.first.now c.requires.first c.in_ok-whole.ensures.text c.in_ok-whole.ensures.each c.requires.back.each c.requires.few in
    subst (λ xs. All IsChunk xs) (sym c.in_ok-join.ensures.ok) (rw c.in_ok-drop_front.ensures (are.each))
