use Rattle.text_buffer.proofs.Drafts.{draft_whole}
use Rattle.std.proofs.Common.{[], ◌∷◌, ◌++◌}
use Rattle.remote_edit.specs.Fragments.{fragments_of}
use Rattle.text_buffer.proofs.document.Document.draft_beside.Goals as goal

pub returns : goal.returns
returns c = let h = c.args.self.now in draft_whole c.in_ok-content.content (fragments_of h) (h ++ c.args.op.now ∷ []) c.in_ok-content.ensures
