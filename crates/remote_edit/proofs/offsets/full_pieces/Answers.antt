use Rattle.std.proofs.Common.{◌∙◌, ◌≤◌, length, map, ap, arith}
use Rattle.std.proofs.lemmas.List.{take_all}
use Rattle.remote_edit.specs.Offsets.{IsInText, piece_in}
use Rattle.remote_edit.proofs.FullIn.{pieces_are}
use Rattle.remote_edit.proofs.offsets.full_pieces.Goals as goal
use Rattle.op_model.proofs.texts.Pieces.{each_at}

pub full_piece-requires-clause-range : goal.full_piece-requires-clause-range
full_piece-requires-clause-range c = each_at (IsInText c.args.tree.now.items) c.args.changes.now c.loop-change.change-index c.change-item.result c.requires.ranges c.loop-change-test.true c.change-item.is

pub returns : goal.returns
returns c = λ h t.
    let l : length c.args.changes.now ≤ c.loop-change.change-index = omega (arith, c.loop-change-test.false) in
    c.new.ensures ∙ c.loop-change.invariant ∙ ap (map (piece_in c.args.tree.now.items)) (take_all c.loop-change.change-index c.args.changes.now l) ∙ pieces_are h c.args.tree.now.items t c.args.changes.now
