use Rattle.std.proofs.Common.{arith}
use Rattle.remote_edit.specs.BeforeEdit.{each_move}
use Rattle.remote_edit.proofs.RangeMoves.{each_end, each_next}
use Rattle.remote_edit.proofs.edit_moves.push_moves.Goals as goal

pub loop-fragment-preserved : goal.loop-fragment-preserved
loop-fragment-preserved c =
    let a = c.args in
    each_next a.undos.now a.edit c.loop-fragment.moves c.push.new.self (each_move a.undos.now a.edit a.moves.now a.fragments.now) a.fragments.now c.loop-fragment.fragment-index c.fragment-item.result c.move_of.result
    c.loop-fragment-test.true c.fragment-item.is c.move_of.ensures c.in_ok-push.ensures.ok c.loop-fragment.invariant

pub returns : goal.returns
returns c =
    let a = c.args in
    each_end a.undos.now a.edit c.loop-fragment.moves (each_move a.undos.now a.edit a.moves.now a.fragments.now) a.fragments.now c.loop-fragment.fragment-index (omega (arith, c.loop-fragment-test.false)) c.loop-fragment.invariant
