use Rattle.std.proofs.Common.{◌∙◌, ◌++◌, ap, subst, sym}
use Rattle.std.specs.List.{concat}
use Rattle.rope_chunks.specs.Chunks.{AreChunks}
use Rattle.rope_chunks.proofs.Grows.{concat-grown, are_grown, grown_is}
use Rattle.rope_chunks.proofs.rope.Rope.push_str.Goals as goal

pub put-requires-clause-chunks : goal.put-requires-clause-chunks
put-requires-clause-chunks c =
    are_grown c.in_ok-kept.kept c.len-len.result c.in_ok-kept.chunks.items c.self.inside.chunks.items (c.args.self.now ++ c.args.text.now)
    (grown_is c.in_ok-kept.kept c.len-len.result c.in_ok-kept.chunks.items c.self.inside.chunks.items c.args.self.now c.args.text.now c.self.view_is c.self.invariant c.len-len.ensures c.in_ok-kept.ensures.each c.in_ok-kept.ensures.text c.requires)

pub invariant_of-self-2 : goal.invariant_of-self-2
invariant_of-self-2 c =
    subst (λ cs. AreChunks cs) (sym c.in_ok-put.ensures.ok)
    (are_grown c.in_ok-kept.kept c.len-len.result c.in_ok-kept.chunks.items c.self.inside.chunks.items (c.args.self.now ++ c.args.text.now)
    (grown_is c.in_ok-kept.kept c.len-len.result c.in_ok-kept.chunks.items c.self.inside.chunks.items c.args.self.now c.args.text.now c.self.view_is c.self.invariant c.len-len.ensures c.in_ok-kept.ensures.each c.in_ok-kept.ensures.text c.requires))

pub returns-clause-ok : goal.returns-clause-ok
returns-clause-ok c =
    ap concat c.in_ok-put.ensures.ok
    ∙ concat-grown c.in_ok-kept.kept c.len-len.result c.in_ok-kept.chunks.items c.self.inside.chunks.items (c.args.self.now ++ c.args.text.now)
    (grown_is c.in_ok-kept.kept c.len-len.result c.in_ok-kept.chunks.items c.self.inside.chunks.items c.args.self.now c.args.text.now c.self.view_is c.self.invariant c.len-len.ensures c.in_ok-kept.ensures.each c.in_ok-kept.ensures.text c.requires)
