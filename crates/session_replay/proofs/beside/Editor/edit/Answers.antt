use Rattle.std.proofs.Common.{[], ap}
use Rattle.session_work.specs.Working.{more_state_of}
use Rattle.session_replay.proofs.Leaving.{both, left_before}
use Rattle.session_replay.proofs.beside.Editor.edit.Goals as goal
use Rattle.std.proofs.Common.{◌∙◌}

pub leave-requires-clause-asking : goal.leave-requires-clause-asking
leave-requires-clause-asking g c = (_, c.in-Ok.ensures.asking [] c.requires.asking)

pub returns-in-Ok : goal.returns-in-Ok
returns-in-Ok g c =
    let ends = c.work_lines.ensures.ends in
    both c.leave.result _ _ _ (λ e same left. record {
      report = ap (λ p. p.plain.report.items) same ∙ c.in-Ok.ensures.report;
      state = ap (λ p. more_state_of p) same ∙ c.in-Ok.ensures.state;
      left = left_before _ _ _ c.args.self.dispatcher c.work_lines.new.self.dispatcher e (ap (λ p. p.plain.exchange.buffers) same) ends.queues ends.pairs (left _ (c.in-Ok.ensures.asking [] c.requires.asking));
    }) c.leave.ensures.progress c.leave.ensures.left
