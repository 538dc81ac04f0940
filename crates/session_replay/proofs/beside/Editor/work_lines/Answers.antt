use Rattle.std.proofs.Common.{◌≡◌, length, ap, ◌∙◌, sym, subst, arith, ◌++◌, refl}
use Rattle.session_work.specs.MoreWork.{more_step}
use Rattle.session_work.specs.Working.{more_state_of}
use Rattle.session_replay.specs.Beside.{asks_among}
use Rattle.session_work.specs.Later.{AllGrow}
use Rattle.session_work.proofs.Excerpting.{room_after, room_before}
use Rattle.session_work.proofs.Growth.{all_themselves, all_trans, more_step_grows}
use Rattle.session_work.proofs.Steps.{more_report, more_state, lines_done, none_taken, on_err, taken_first}
use Rattle.session_replay.proofs.Asking.{ends_same, ends_trans, leads_first, leads_last, leads_more, room_for}
use Rattle.session_replay.proofs.beside.Editor.work_lines.Goals as goal

pub loop-line-init : goal.loop-line-init
loop-line-init g c =
    let ls = c.args.lines in
    let s = more_state_of c.args.self.now.progress in
    let d = c.args.self.now.dispatcher in record {
      count = omega (arith, c.len-count.ensures.len);
      workers = refl;
      report = refl;
      few = c.requires.few;
      state = refl;
      grows = all_themselves c.args.self.now.progress.plain.exchange.buffers;
      ends = ends_same d c.args.publishers.now;
      asking = λ asks a. leads_first ls s asks d c.args.publishers.now a c.requires.room;
    }

pub work_line-requires-clause-asking : goal.work_line-requires-clause-asking
work_line-requires-clause-asking g c =
    let l = c.loop-line.invariant.asking c.requires.asking.0 c.requires.asking.1 in (c.requires.asking.0 ++ asks_among c.args.self.now.progress.plain.exchange.buffers l.more, l.asking)

pub work_line-requires-clause-room : goal.work_line-requires-clause-room
work_line-requires-clause-room g c =
    room_for c.args.lines (more_state_of c.args.self.now.progress) c.requires.asking.0 c.loop-line.lines c.in-Some.line c.in-Some.rest (more_state_of c.loop-line.self.progress) c.loop-line.self.dispatcher c.loop-line.publishers
    (taken_first c.loop-line.lines _ (c.in-Some.line, c.in-Some.rest) c.in_ok-line.ensures c.in-Some.is) (c.loop-line.invariant.asking c.requires.asking.0 c.requires.asking.1)

pub work_line-requires-clause-few : goal.work_line-requires-clause-few
work_line-requires-clause-few g c =
    room_before c.loop-line.lines c.in-Some.line c.in-Some.rest (more_state_of c.loop-line.self.progress)
    (taken_first c.loop-line.lines _ (c.in-Some.line, c.in-Some.rest) c.in_ok-line.ensures c.in-Some.is) c.loop-line.invariant.few

pub loop-line-smaller : goal.loop-line-smaller
loop-line-smaller g c = omega (arith, ap (λ ls. length ls) (taken_first c.loop-line.lines _ (c.in-Some.line, c.in-Some.rest) c.in_ok-line.ensures c.in-Some.is))

pub loop-line-preserved : goal.loop-line-preserved
loop-line-preserved g c =
    let left = c.loop-line.lines in
    let rest = c.in-Some.rest in
    let l = c.in-Some.line in
    let s = more_state_of c.loop-line.self.progress in
    let t = more_state_of c.work_line.new.self.progress in
    let d = c.work_line.new.self.dispatcher in
    let p = c.work_line.new.publishers in
    let begins = taken_first left _ (l, rest) c.in_ok-line.ensures c.in-Some.is in
    let worked = c.in_ok-work_line.ensures in
    let is : t ≡ more_step l s = worked.state in
    let inv = c.loop-line.invariant in record {
      count = omega (arith, inv.count, ap (λ ls. length ls) begins);
      workers = worked.same ∙ inv.workers;
      report = more_report left l rest s t begins is _ _ _ inv.report worked.report;
      few = room_after left l rest s t begins is inv.few;
      state = more_state left l rest s t begins is _ inv.state;
      grows = all_trans _ s.plain.buffers t.plain.buffers inv.grows (subst (λ u. AllGrow s.plain.buffers u.plain.buffers) (sym is) (more_step_grows l s));
      ends = ends_trans _ c.loop-line.self.dispatcher d _ c.loop-line.publishers p inv.ends worked.ends;
      asking = λ asks a. leads_more c.args.lines (more_state_of c.args.self.now.progress) asks left l rest s c.loop-line.self.dispatcher c.loop-line.publishers begins (inv.asking asks a) t d p inv.grows is worked.ends.limit worked.asking;
    }

pub returns-clause-report : goal.returns-clause-report
returns-clause-report g c = lines_done c.loop-line.lines (more_state_of c.loop-line.self.progress) _ _ (none_taken c.loop-line.lines _ c.in_ok-line.ensures c.in_default.is) c.loop-line.invariant.report

pub returns-clause-asking : goal.returns-clause-asking
returns-clause-asking g c =
    λ asks a. leads_last c.args.lines (more_state_of c.args.self.now.progress) asks c.loop-line.lines (more_state_of c.loop-line.self.progress) c.loop-line.self.dispatcher c.loop-line.publishers (none_taken c.loop-line.lines _ c.in_ok-line.ensures c.in_default.is)
    (c.loop-line.invariant.asking asks a)

pub returns-in_err-line-clause-err : goal.returns-in_err-line-clause-err
returns-in_err-line-clause-err g c =
    let l = c.loop-line.invariant.asking c.requires.asking.0 c.requires.asking.1 in on_err c.from_residual.result _ (c.requires.asking.0 ++ asks_among c.args.self.now.progress.plain.exchange.buffers l.more, l.asking.asked)
