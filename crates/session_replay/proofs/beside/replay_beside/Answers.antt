use Rattle.std.proofs.Common.{refl, ◌∙◌}
use Rattle.std.proofs.lemmas.Result.{IfOk-weaker}
use Rattle.session_replay.proofs.Opening.{are_past, can_edit, is_report}
use Rattle.session_replay.proofs.beside.replay_beside.Goals as goal

pub edit_beside-requires-after_bounds : goal.edit_beside-requires-after_bounds
edit_beside-requires-after_bounds g c κs within =
    let s = c.args.session in
    let made = c.in_ok-dispatcher.ensures in
    can_edit s c.requires.session _ c.open_desks.new.publishers c.in_ok-progress.ensures.state c.args.workers c.query_count-limit.result c.into_queue-lines.result c.into_queue-lines.ensures refl (made.count ∙ c.requires.none.0) c.query_count-limit.ensures
    made.asked.0 made.asked.1 made.level made.tied (made.published ∙ c.in_ok-firsts.ensures)

pub gathered_report-requires-after_bounds : goal.gathered_report-requires-after_bounds
gathered_report-requires-after_bounds g c κs within =
    let done = c.in_ok-edited.ensures in
    (_, _, _, done.edited.left, are_past c.args.session c.into_queue-lines.result c.into_queue-lines.ensures _ _ done.edited c.in_ok-progress.ensures.state, c.in_ok-dispatcher.ensures.ends, done.worked)

pub returns : goal.returns
returns g c =
    let s = c.args.session in
    let p = c.in_ok-progress.ensures in
    let done = c.in_ok-edited.ensures.edited in
    IfOk-weaker c.gathered_report.result _ _
    (λ v t. is_report s c.into_queue-lines.result c.into_queue-lines.ensures _ _ done p.state c.args.workers c.requires.some (c.in_ok-dispatcher.ensures.count ∙ c.requires.none.0) p.report t.0 t.1 v.items t.2)
    (c.gathered_report.ensures _ _ done.left)
