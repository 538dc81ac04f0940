use Rattle.std.proofs.Common.{◌++◌, ap, ◌∙◌, arith}
use Rattle.session_lines.specs.Report.{line_text}
use Rattle.session_work.specs.Work.{counts_report}
use Rattle.session_work.proofs.Rounds.{counts_done, more_counts}
use Rattle.session_work.proofs.making.write_counts.Goals as goal

pub loop-replica-preserved : goal.loop-replica-preserved
loop-replica-preserved c =
    more_counts c.args.replicas.now c.loop-replica.replica-index c.replica-item.result _ _ _ (omega arith) c.loop-replica.invariant
    (c.in_ok-write_line.ensures.ok ∙ ap (λ r. c.loop-replica.out.items ++ line_text r) c.counts.ensures ∙ ap (λ b. c.loop-replica.out.items ++ line_text (counts_report b)) c.replica-item.is)

pub returns : goal.returns
returns c = counts_done c.args.replicas.now c.loop-replica.replica-index _ _ (omega arith) c.loop-replica.invariant
