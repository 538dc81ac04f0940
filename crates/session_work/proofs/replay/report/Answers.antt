use Rattle.std.proofs.Common.{◌++◌, ap, ◌∙◌}
use Rattle.std.specs.List.{flat_map}
use Rattle.std.proofs.lemmas.Result.{IfOk-weaker}
use Rattle.session_lines.specs.Report.{report_text}
use Rattle.session_work.specs.Work.{at_end}
use Rattle.session_work.specs.Working.{more_state_of}
use Rattle.session_work.proofs.Excerpting.{opening_room}
use Rattle.session_work.proofs.Steps.{whole_report}
use Rattle.session_work.proofs.replay.report.Goals as goal

pub returns : goal.returns
returns c =
    let first = c.in_ok-progress.progress in
    let p = c.in_ok-progress.ensures in
    let worked = c.work_lines.new.progress in
    let answers = c.work_lines.new.answers.items in
    let done = c.in_ok-work_lines.ensures in
    IfOk-weaker c.finish.result _ _
    (λ v is. whole_report c.args.session c.into_queue.result (more_state_of first) c.into_queue.ensures p.state _ worked.plain.report.items v.items (more_state_of worked) _ answers
    p.report c.new-answers.ensures.items done.report done.state done.answers
    (is ∙ ap (λ rs. (worked.plain.report.items ++ report_text rs) ++ report_text (flat_map at_end worked.plain.exchange.buffers)) c.as_slice.ensures.value))
    c.finish.ensures

pub work_lines-requires : goal.work_lines-requires
work_lines-requires c =
    opening_room c.args.session c.requires c.into_queue.result c.into_queue.ensures (more_state_of c.in_ok-progress.progress) c.in_ok-progress.ensures.state
