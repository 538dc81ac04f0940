use Rattle.std.proofs.Common.{◌++◌, ap, ◌∙◌, arith}
use Rattle.session_lines.specs.Report.{report_text}
use Rattle.session_work.specs.Work.{at_end}
use Rattle.session_work.proofs.Steps.{more_ends, ends_done}
use Rattle.session_work.proofs.replay.write_ends.Goals as goal

pub loop-replica-preserved : goal.loop-replica-preserved
loop-replica-preserved c =
    more_ends c.args.replicas.now c.loop-replica.replica-index c.replica-item.result _ _ _ (omega arith) c.loop-replica.invariant
    (c.in_ok-write_end.ensures ∙ ap (λ b. c.loop-replica.out.items ++ report_text (at_end b)) c.replica-item.is)

pub returns : goal.returns
returns c = ends_done c.args.replicas.now c.loop-replica.replica-index _ _ (omega arith) c.loop-replica.invariant
