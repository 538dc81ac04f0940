use Rattle.std.proofs.Common.{length}
use Rattle.std.proofs.lemmas.Result.{IfOk-weaker}
use Rattle.op_model.specs.Shown.{texts}
use Rattle.remote_edit.proofs.EditMoves.{edit_carried}
use Rattle.remote_edit.proofs.edit_moves.edit_moves.Goals as goal

pub returns : goal.returns
returns c =
    let e = c.args.edit.now in
    IfOk-weaker c.moves_among.result _ _ (λ ms f. edit_carried c.args.undos.now e.stamp (length (texts e.pieces)) c.args.tree.now.items ms c.requires.shown c.requires.brought f) c.moves_among.ensures
