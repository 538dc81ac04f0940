use Rattle.std.proofs.Common.{sym, subst}
use Rattle.fragments.specs.DeletedRuns.{IndexState}
use Rattle.text_buffer.specs.DocumentInside.{IsDocumentInside}
use Rattle.text_buffer.proofs.document.Document.make_room.Goals as goal

pub invariant_of-self : goal.invariant_of-self
invariant_of-self c =
    let d = c.self.inside in
    subst (λ (w : IndexState). IsDocumentInside (record d { content = record d.content { index = w } })) (sym c.make_room.ensures) c.self.invariant
