use Rattle.std.proofs.Common.{arith}
use Rattle.session_work.proofs.Reports.{more_refused, refused_done}
use Rattle.session_work.proofs.replica.write_refused.Goals as goal

pub loop-entry-preserved : goal.loop-entry-preserved
loop-entry-preserved c = more_refused c.args.replica c.args.refused.now c.loop-entry.entry-index _ _ _ _ (omega arith) c.loop-entry.invariant c.in_ok-write_line.ensures.ok

pub returns : goal.returns
returns c = refused_done c.args.replica c.args.refused.now c.loop-entry.entry-index _ _ (omega arith) c.loop-entry.invariant
