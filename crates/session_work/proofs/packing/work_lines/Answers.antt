use Rattle.std.proofs.Common.{◌≡◌, ◌+◌, ◌-◌, ◌++◌, length, refl, ap, ◌∙◌, arith}
use Rattle.std.specs.Prelude.{replicate}
use Rattle.session_work.specs.MoreWork.{more_step}
use Rattle.session_work.specs.Working.{more_state_of}
use Rattle.session_work.proofs.Excerpting.{room_after, room_before}
use Rattle.session_work.proofs.Packs.{numbered, numbered_all, numbered_at_first}
use Rattle.session_work.proofs.Steps.{more_state, none_taken, taken_first}
use Rattle.session_work.proofs.packing.work_lines.Goals as goal

pub loop-line-init : goal.loop-line-init
loop-line-init c = record {
  within = omega (arith, c.len-end.ensures.len);
  numbered = numbered_at_first _ _ c.args.lines _ (ap (λ n. n + 2) c.len-end.ensures.len);
  room = c.requires;
  state = refl;
}

pub work_line-requires : goal.work_line-requires
work_line-requires c =
    room_before c.loop-line.lines c.in-Some.line c.in-Some.rest (more_state_of c.loop-line.progress)
    (taken_first c.loop-line.lines _ (c.in-Some.line, c.in-Some.rest) c.in_ok-line.ensures c.in-Some.is) c.loop-line.invariant.room

pub loop-line-smaller : goal.loop-line-smaller
loop-line-smaller c = omega (arith, ap (λ ls. length ls) (taken_first c.loop-line.lines _ (c.in-Some.line, c.in-Some.rest) c.in_ok-line.ensures c.in-Some.is))

pub loop-line-preserved : goal.loop-line-preserved
loop-line-preserved c =
    let left = c.loop-line.lines in
    let l = c.in-Some.line in
    let rest = c.in-Some.rest in
    let s = more_state_of c.loop-line.progress in
    let t = more_state_of c.clear_report.new.self in
    let begins = taken_first left _ (l, rest) c.in_ok-line.ensures c.in-Some.is in
    let is : t ≡ more_step l s = c.clear_report.ensures ∙ c.in_ok-work_line.ensures.state in
    let pushed = c.in_ok-push_line.ensures
    ∙ (ap (λ n. c.loop-line.numbered.items ++ replicate c.number_count.result ((c.len-end.result + 2) - n - 1)) c.len.ensures.len
    ∙ ap (λ k. c.loop-line.numbered.items ++ replicate k ((c.len-end.result + 2) - length rest - 1)) c.number_count.ensures) in
    record {
      within = omega (arith, ap (λ ls. length ls) begins, c.loop-line.invariant.within);
      numbered = numbered c.args.replicas (c.len-end.result + 2) l rest left _ _ _ begins c.loop-line.invariant.within c.loop-line.invariant.numbered pushed;
      room = room_after left l rest s t begins is c.loop-line.invariant.room;
      state = more_state left l rest s t begins is _ c.loop-line.invariant.state;
    }

pub returns-clause-numbered : goal.returns-clause-numbered
returns-clause-numbered c =
    numbered_all _ _ c.loop-line.lines _ _ (none_taken c.loop-line.lines _ c.in_ok-line.ensures c.in_default.is) c.loop-line.invariant.numbered
