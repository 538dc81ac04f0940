use Rattle.std.proofs.Common.{◌≡◌, length, ap, arith}
use Rattle.session_work.specs.MoreWork.{more_step}
use Rattle.session_work.specs.Working.{more_state_of}
use Rattle.session_work.proofs.Excerpting.{room_after, room_before}
use Rattle.session_work.proofs.Steps.{more_report, more_state, lines_done, none_taken, taken_first}
use Rattle.session_work.proofs.QueryLines.{answers_done, more_answers}
use Rattle.session_work.proofs.replay.work_lines.Goals as goal

pub loop-line-smaller : goal.loop-line-smaller
loop-line-smaller c = omega (arith, ap (λ ls. length ls) (taken_first c.loop-line.lines _ (c.in-Some.line, c.in-Some.rest) c.in_ok-line.ensures c.in-Some.is))

pub work_line-requires : goal.work_line-requires
work_line-requires c =
    room_before c.loop-line.lines c.in-Some.line c.in-Some.rest (more_state_of c.loop-line.progress)
    (taken_first c.loop-line.lines _ (c.in-Some.line, c.in-Some.rest) c.in_ok-line.ensures c.in-Some.is) c.loop-line.invariant.room

pub loop-line-preserved : goal.loop-line-preserved
loop-line-preserved c =
    let left = c.loop-line.lines in
    let l = c.in-Some.line in
    let rest = c.in-Some.rest in
    let s = more_state_of c.loop-line.progress in
    let t = more_state_of c.work_line.new.self in
    let begins = taken_first left _ (l, rest) c.in_ok-line.ensures c.in-Some.is in
    let is : t ≡ more_step l s = c.in_ok-work_line.ensures.state in
    record {
      report = more_report left l rest s t begins is _ _ _ c.loop-line.invariant.report c.in_ok-work_line.ensures.report;
      answers = more_answers left l rest s t begins is c.loop-line.answers.items _ _ c.loop-line.invariant.answers c.in_ok-answer_if_query.ensures;
      room = room_after left l rest s t begins is c.loop-line.invariant.room;
      state = more_state left l rest s t begins is _ c.loop-line.invariant.state;
    }

pub returns-clause-answers : goal.returns-clause-answers
returns-clause-answers c =
    answers_done c.loop-line.lines (more_state_of c.loop-line.progress) _ _ (none_taken c.loop-line.lines _ c.in_ok-line.ensures c.in_default.is) c.loop-line.invariant.answers

pub returns-clause-report : goal.returns-clause-report
returns-clause-report c =
    lines_done c.loop-line.lines (more_state_of c.loop-line.progress) _ _ (none_taken c.loop-line.lines _ c.in_ok-line.ensures c.in_default.is) c.loop-line.invariant.report
