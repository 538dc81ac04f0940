use Rattle.std.proofs.Common.{arith}
use Rattle.undo_map.proofs.Entries.{one_more, none_left, has_room, with_history}
use Rattle.undo_map.proofs.map.UndoMap.put_undo.Goals as goal

pub set-requires : goal.set-requires
set-requires c = has_room _ c.loop-count.map c.args.self c.as_slice-counts.result.now c.args.undo.now.counts c.loop-count.count-index c.as_slice-counts.ensures c.loop-count.invariant.room c.loop-count-test.true c.requires

pub returns-clause-history : goal.returns-clause-history
returns-clause-history c = λ h q.
    let u = c.args.undo.now in
    let m = none_left u.stamp c.as_slice-counts.result.now u.counts c.loop-count.count-index c.loop-count.map c.args.self c.loop-count-test.false c.as_slice-counts.ensures c.loop-count.invariant.left in
    with_history h u c.args.self c.loop-count.map m q

pub loop-count-preserved : goal.loop-count-preserved
loop-count-preserved c =
    let grown = c.in_ok-set.ensures.grows in
    let room = c.loop-count.invariant.room in
    record {
      left = one_more c.args.undo.now.stamp c.as_slice-counts.result.now c.loop-count.count-index (record { edit = record { value = 0; replica = 0 }; count = 0 }) c.loop-count.map c.set.new.self _ c.loop-count-test.true c.in_ok-set.ensures.ok c.loop-count.invariant.left;
      room = omega (arith, grown, room);
    }
