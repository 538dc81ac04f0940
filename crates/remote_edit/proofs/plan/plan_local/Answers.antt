use Rattle.std.proofs.Common.{refl}
use Rattle.remote_edit.proofs.Local.{in_text}
use Rattle.remote_edit.proofs.Making.{may_place, room_in, seen_in, ordered_in, steps_in}
use Rattle.remote_edit.proofs.plan.plan_local.Goals as goal
use Rattle.op_model.proofs.answers.Local.{local_edit_is}

pub same-version : goal.same-version
same-version g c = refl

pub full_pieces-requires-clause-room : goal.full_pieces-requires-clause-room
full_pieces-requires-clause-room g c = room_in c.args.tree.now.items c.args.index.now c.args.undos.now c.args.stamp c.args.version c.args.changes.now c.requires

pub full_pieces-requires-clause-ranges : goal.full_pieces-requires-clause-ranges
full_pieces-requires-clause-ranges g c = in_text c.requires.limits c.requires.history c.args.tree.now.items c.args.changes.now c.requires.stands.cells c.requires.faultless

pub plan_edit-requires : goal.plan_edit-requires
plan_edit-requires g c = rw c.in_ok-share.ensures (may_place c.args.tree.now.items c.args.index.now c.args.undos.now c.args.stamp c.args.version c.args.changes.now c.requires c.in_ok-pieces.pieces (c.in_ok-pieces.ensures c.requires.history c.requires.stands.cells))

pub returns-clause-made : goal.returns-clause-made
returns-clause-made g c = λ h s e f. local_edit_is h c.args.stamp c.args.changes.now c.in_ok-pieces.pieces c.args.version e f (c.in_ok-pieces.ensures h s.cells)

pub returns-clause-placement : goal.returns-clause-placement
returns-clause-placement g c = rw (← c.in_ok-share.ensures) c.in_ok-placement.ensures.placement

pub returns-clause-cost : goal.returns-clause-cost
returns-clause-cost g c =
    let a = c.args in
    let e = c.in_ok-pieces.ensures c.requires.history c.requires.stands.cells in
    let qs = c.in_ok-pieces.pieces in
    let i = a.index.now in
    steps_in a.tree.now.items i a.undos.now a.stamp a.version a.changes.now c.requires qs e a.steps.now c.plan_edit.new.steps a.tree.now.height
    (c.plan_edit.ensures.cost (seen_in a.tree.now.items i a.undos.now a.stamp a.version a.changes.now c.requires) (ordered_in a.tree.now.items i a.undos.now a.stamp a.version a.changes.now c.requires qs e))

pub returns-in_err-placement-clause-cost : goal.returns-in_err-placement-clause-cost
returns-in_err-placement-clause-cost g c =
    let a = c.args in
    let e = c.in_ok-pieces.ensures c.requires.history c.requires.stands.cells in
    let qs = c.in_ok-pieces.pieces in
    let i = a.index.now in
    steps_in a.tree.now.items i a.undos.now a.stamp a.version a.changes.now c.requires qs e a.steps.now c.plan_edit.new.steps a.tree.now.height
    (c.plan_edit.ensures.cost (seen_in a.tree.now.items i a.undos.now a.stamp a.version a.changes.now c.requires) (ordered_in a.tree.now.items i a.undos.now a.stamp a.version a.changes.now c.requires qs e))

pub returns-clause-change : goal.returns-clause-change
returns-clause-change g c = λ n f.
    let a = c.args in
    let e = c.in_ok-pieces.ensures c.requires.history c.requires.stands.cells in
    let qs = c.in_ok-pieces.pieces in
    let i = a.index.now in
    steps_in a.tree.now.items i a.undos.now a.stamp a.version a.changes.now c.requires qs e a.steps.now n a.tree.now.height
    (c.in_ok-placement.ensures.change (seen_in a.tree.now.items i a.undos.now a.stamp a.version a.changes.now c.requires) (ordered_in a.tree.now.items i a.undos.now a.stamp a.version a.changes.now c.requires qs e) n f)
