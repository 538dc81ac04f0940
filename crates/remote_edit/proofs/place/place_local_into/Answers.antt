use Rattle.std.proofs.Common.{refl}
use Rattle.remote_edit.proofs.Local.{in_text}
use Rattle.remote_edit.proofs.Making.{may_place, room_in, seen_in, ordered_in, steps_in}
use Rattle.remote_edit.proofs.place.place_local_into.Goals as goal
use Rattle.op_model.proofs.answers.Local.{local_edit_is}

pub same-version : goal.same-version
same-version g c = refl

pub same-tree : goal.same-tree
same-tree g c = refl

pub same-index : goal.same-index
same-index g c = refl

pub full_pieces-requires-clause-room : goal.full_pieces-requires-clause-room
full_pieces-requires-clause-room g c = room_in c.args.tree.items c.args.index c.args.undos.now c.args.stamp c.args.version c.args.changes.now c.requires

pub full_pieces-requires-clause-ranges : goal.full_pieces-requires-clause-ranges
full_pieces-requires-clause-ranges g c = in_text c.requires.limits c.requires.history c.args.tree.items c.args.changes.now c.requires.stands.cells c.requires.faultless

pub place_edit-requires : goal.place_edit-requires
place_edit-requires g c = may_place c.args.tree.items c.args.index c.args.undos.now c.args.stamp c.args.version c.args.changes.now c.requires c.in_ok-pieces.pieces (c.in_ok-pieces.ensures c.requires.history c.requires.stands.cells)

pub returns-clause-made : goal.returns-clause-made
returns-clause-made g c = λ h s e f. local_edit_is h c.args.stamp c.args.changes.now c.in_ok-pieces.pieces c.args.version e f (c.in_ok-pieces.ensures h s.cells)

pub returns-clause-fragments : goal.returns-clause-fragments
returns-clause-fragments g c = c.in_ok-placed.ensures.fragments

pub returns-clause-stands : goal.returns-clause-stands
returns-clause-stands g c = c.in_ok-placed.ensures.stands

pub returns-clause-moves : goal.returns-clause-moves
returns-clause-moves g c = c.in_ok-placed.ensures.moves

pub returns-clause-characters : goal.returns-clause-characters
returns-clause-characters g c = c.in_ok-placed.ensures.characters

pub returns-clause-cost : goal.returns-clause-cost
returns-clause-cost g c =
    let a = c.args in
    let e = c.in_ok-pieces.ensures c.requires.history c.requires.stands.cells in
    let qs = c.in_ok-pieces.pieces in
    steps_in a.tree.items a.index a.undos.now a.stamp a.version a.changes.now c.requires qs e a.steps.now c.place_edit.new.steps a.tree.height
    (c.place_edit.ensures.cost (seen_in a.tree.items a.index a.undos.now a.stamp a.version a.changes.now c.requires) (ordered_in a.tree.items a.index a.undos.now a.stamp a.version a.changes.now c.requires qs e))

pub returns-in_err-placed-clause-cost : goal.returns-in_err-placed-clause-cost
returns-in_err-placed-clause-cost g c =
    let a = c.args in
    let e = c.in_ok-pieces.ensures c.requires.history c.requires.stands.cells in
    let qs = c.in_ok-pieces.pieces in
    steps_in a.tree.items a.index a.undos.now a.stamp a.version a.changes.now c.requires qs e a.steps.now c.place_edit.new.steps a.tree.height
    (c.place_edit.ensures.cost (seen_in a.tree.items a.index a.undos.now a.stamp a.version a.changes.now c.requires) (ordered_in a.tree.items a.index a.undos.now a.stamp a.version a.changes.now c.requires qs e))
