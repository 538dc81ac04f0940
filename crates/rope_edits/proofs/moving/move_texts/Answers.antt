use Rattle.remote_edit.specs.declared.moves.Move.TheVariants.{Visible}
use Rattle.rope_edits.proofs.Sides.{turn_on}
use Rattle.rope_edits.proofs.moving.move_texts.Goals as goal

pub loop-next-preserved : goal.loop-next-preserved
loop-next-preserved c =
    let t = turn_on c.args.moves.now c.loop-next.next-index (Visible 0) c.loop-next.sides c.step.new.self _ c.loop-next-test.true c.in_ok-step.ensures.ok c.loop-next.invariant.outcome c.loop-next.invariant.takes c.loop-next.invariant.room in
    record { outcome = t.outcome; takes = t.takes; room = t.room }
