use Rattle.std.proofs.Common.{◌∙◌, subst}
use Rattle.text_buffer.specs.Buffer.{IsBuffer}
use Rattle.text_buffer.proofs.Undone.{made_fits}
use Rattle.text_buffer.proofs.buffer.Buffer.make_undo.Goals as goal

pub apply-requires-clause-proper : goal.apply-requires-clause-proper
apply-requires-clause-proper c =
    (made_fits c.args.self.now c.args.edits.now c.in_ok-made.kept (subst IsBuffer c.self.view_is c.self.invariant) c.requires (c.in_ok-made.ensures.copy ∙ c.in_ok-undo.ensures)).proper

pub apply-requires-clause-good : goal.apply-requires-clause-good
apply-requires-clause-good c =
    (made_fits c.args.self.now c.args.edits.now c.in_ok-made.kept (subst IsBuffer c.self.view_is c.self.invariant) c.requires (c.in_ok-made.ensures.copy ∙ c.in_ok-undo.ensures)).good

pub apply-requires-clause-room : goal.apply-requires-clause-room
apply-requires-clause-room c =
    (made_fits c.args.self.now c.args.edits.now c.in_ok-made.kept (subst IsBuffer c.self.view_is c.self.invariant) c.requires (c.in_ok-made.ensures.copy ∙ c.in_ok-undo.ensures)).room
