use Rattle.std.proofs.Common.{◌∙◌, ap, sym, subst}
use Rattle.std.specs.List.{concat}
use Rattle.rope_chunks.specs.Chunks.{AreChunks}
use Rattle.rope_chunks.proofs.Changes.{concat-spliced, are_changed}
use Rattle.rope_chunks.proofs.change.make.Goals as goal

pub put-requires-clause-chunks : goal.put-requires-clause-chunks
put-requires-clause-chunks c =
    are_changed c.args.change.from c.args.change.to c.args.change.chunks.items c.args.tree.now.items c.requires.each c.requires.new c.requires.few

pub returns-clause-text : goal.returns-clause-text
returns-clause-text c =
    ap concat c.in_ok-put.ensures.ok ∙ concat-spliced c.args.change.from c.args.change.to c.args.change.chunks.items c.args.tree.now.items

pub returns-clause-each : goal.returns-clause-each
returns-clause-each c =
    subst (λ cs. AreChunks cs) (sym c.in_ok-put.ensures.ok)
    (are_changed c.args.change.from c.args.change.to c.args.change.chunks.items c.args.tree.now.items c.requires.each c.requires.new c.requires.few)
