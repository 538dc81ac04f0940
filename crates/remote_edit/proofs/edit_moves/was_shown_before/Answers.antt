use Rattle.remote_edit.proofs.BeforeEdit.{was_shown_before}
use Rattle.remote_edit.proofs.edit_moves.was_shown_before.Goals as goal

pub returns-then-not-is_undone : goal.returns-then-not-is_undone
returns-then-not-is_undone c = was_shown_before c.args.undos.now c.args.fragment.now.stamp c.args.edit c.args.fragment.now.deletions c.as_slice.result.now c.is_undone.result c.all_others_are_undone-others.result
    c.is_undone.ensures c.if-not-is_undone.true c.as_slice.ensures c.all_others_are_undone-others.ensures
