use Rattle.std.proofs.Common.{◌∙◌, ◌++◌, ◌-◌, [], ◌∷◌, ap, refl}
use Rattle.std.specs.List.{concat}
use Rattle.rope_chunks.specs.Chunks.{AreChunks}
use Rattle.rope_chunks.proofs.Grows.{are_grown, concat-grown, seam_grown}
use Rattle.rope_chunks.proofs.build.with_seam.Goals as goal

pub same-whole : goal.same-whole
same-whole c = refl

pub put-requires-clause-chunks : goal.put-requires-clause-chunks
put-requires-clause-chunks c =
    rw c.in_ok-whole.ensures (are_grown (c.len-len.result - 1) c.len-len.result c.push.new.self.items c.args.front.now.items (concat c.args.front.now.items ++ c.args.next.now)
    (seam_grown c.len-len.result c.push.new.self.items c.args.front.now.items c.args.last.now c.args.next.now c.join.result c.len-len.ensures c.requires.front c.requires.last c.requires.next c.requires.small c.requires.few
    (rw (c.join.ensures, c.as_str.ensures.value, c.as_str-2.ensures.value) refl) (c.in_ok-push.ensures.items ∙ ap (λ xs. xs ++ c.join.result ∷ []) c.new-seam.ensures.items)))

pub returns-clause-text : goal.returns-clause-text
returns-clause-text c =
    ap concat c.in_ok-put.ensures.ok
    ∙ rw c.in_ok-whole.ensures (concat-grown (c.len-len.result - 1) c.len-len.result c.push.new.self.items c.args.front.now.items (concat c.args.front.now.items ++ c.args.next.now)
    (seam_grown c.len-len.result c.push.new.self.items c.args.front.now.items c.args.last.now c.args.next.now c.join.result c.len-len.ensures c.requires.front c.requires.last c.requires.next c.requires.small c.requires.few
    (rw (c.join.ensures, c.as_str.ensures.value, c.as_str-2.ensures.value) refl) (c.in_ok-push.ensures.items ∙ ap (λ xs. xs ++ c.join.result ∷ []) c.new-seam.ensures.items)))

pub returns-clause-each : goal.returns-clause-each
returns-clause-each c =
    let are : AreChunks c.put.new.tree.items = rw (c.in_ok-put.ensures.ok, c.in_ok-whole.ensures) (are_grown (c.len-len.result - 1) c.len-len.result c.push.new.self.items c.args.front.now.items (concat c.args.front.now.items ++ c.args.next.now)
    (seam_grown c.len-len.result c.push.new.self.items c.args.front.now.items c.args.last.now c.args.next.now c.join.result c.len-len.ensures c.requires.front c.requires.last c.requires.next c.requires.small c.requires.few
    (rw (c.join.ensures, c.as_str.ensures.value, c.as_str-2.ensures.value) refl) (c.in_ok-push.ensures.items ∙ ap (λ xs. xs ++ c.join.result ∷ []) c.new-seam.ensures.items))) in
    are.each
