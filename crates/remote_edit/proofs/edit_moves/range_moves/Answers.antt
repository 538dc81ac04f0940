use Rattle.std.proofs.Common.{◌∙◌, [], List, length, ap}
use Rattle.op_model.specs.Shown.{texts}
use Rattle.remote_edit.specs.declared.moves.Move.{Move}
use Rattle.remote_edit.proofs.MovesAmong.{kept_moves}
use Rattle.remote_edit.proofs.RangeMoves.{range_carried}
use Rattle.remote_edit.proofs.edit_moves.range_moves.Goals as goal

pub returns : goal.returns
returns c =
    let a = c.args in
    let e = a.edit.now in
    range_carried a.undos.now e.stamp (length (texts e.pieces)) a.tree.now.items a.made.now a.from a.to a.before c.left_from-after.result c.keep.new.self c.push_moves.new.moves c.keep-2.new.self
    c.requires.untouched c.requires.brought c.requires.before c.left_from-after.ensures
    (c.in_ok-keep.ensures ∙ ap (λ (m : List Move). kept_moves m a.before.visible a.before.hidden) c.new-moves.ensures) c.in_ok-push_moves.ensures c.in_ok-keep-2.ensures
