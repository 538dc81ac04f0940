use Rattle.std.proofs.Common.{◌+◌, ◌≤◌, ◌^◌, sym, subst}
use Rattle.op_model.specs.Operations.{text_total}
use Rattle.op_model.specs.Histories.{History, bytes_held}
use Rattle.text_buffer.proofs.Contents.{moves_room}
use Rattle.text_buffer.proofs.document.Document.draft_of.Goals as goal

pub apply_moves-requires-clause-room : goal.apply_moves-requires-clause-room
apply_moves-requires-clause-room c = moves_room c.self.inside.content c.self.inside.operations (text_total c.args.pieces.now) c.self.invariant.content
    (subst (λ (h : History). bytes_held h + text_total c.args.pieces.now ≤ 2 ^ 40) (sym c.self.view_is) c.requires.room)
