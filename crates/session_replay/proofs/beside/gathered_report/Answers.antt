use Rattle.std.proofs.Common.{◌++◌, length, ap, ◌∙◌, subst}
use Rattle.std.specs.List.{flat_map}
use Rattle.std.proofs.lemmas.Result.{IfOk-weaker}
use Rattle.session_lines.specs.Report.{report_text}
use Rattle.queries.specs.Final.{AreGathered}
use Rattle.session_work.specs.Work.{at_end}
use Rattle.session_work.specs.Queries.{plain_answer}
use Rattle.session_replay.proofs.Leaving.{can_gather, same_length}
use Rattle.session_replay.proofs.beside.gathered_report.Goals as goal

pub gather-requires-clause-ready : goal.gather-requires-clause-ready
gather-requires-clause-ready g c κs within =
    can_gather _ c.requires.0 c.requires.1 c.requires.2 c.args.edited c.args.dones.items _ (c.as_slice.ensures.value ∙ c.in_ok-lasts.ensures) c.requires.3 c.requires.4 c.requires.5 c.requires.6

pub returns : goal.returns
returns g c = λ asks d left.
    let gathered = c.in_ok-answers.ensures.gathered asks left.ready.numbers left.count left.published left.ready in
    let made = c.in_ok-answers.answers.items in
    IfOk-weaker c.finish.result _ _ (λ v is. (
      made,
      subst (λ lasts. AreGathered plain_answer (length d.inboxes) lasts asks made) (c.as_slice.ensures.value ∙ c.in_ok-lasts.ensures)
          (subst (λ n. AreGathered plain_answer n c.as_slice.result.now asks made) (same_length c.args.edited.gathering.inboxes.items d.inboxes left.queues) gathered),
      is ∙ ap (λ rs. (c.args.edited.progress.plain.report.items ++ report_text rs) ++ report_text (flat_map at_end c.args.edited.progress.plain.exchange.buffers)) (c.as_slice-2.ensures.value ∙ c.in_ok-lines.ensures),
    )) c.finish.ensures
