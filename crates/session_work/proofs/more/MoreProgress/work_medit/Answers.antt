use Rattle.std.proofs.Common.{ℕ, ◌++◌, List, ap, subst, ◌∙◌}
use Rattle.std.specs.Option.{option_to_list}
use Rattle.session_lines.specs.Report.{report_text}
use Rattle.session_more.specs.Reports.{more_report_text}
use Rattle.session_more.specs.declared.session.MoreLine.TheVariants as line
use Rattle.session_work.specs.MoreInside.{progress_of}
use Rattle.session_work.specs.Parts.{parts_of, settled_from}
use Rattle.session_work.specs.Working.{more_state_of, state_of}
use Rattle.session_work.proofs.Behind.{behind_later}
use Rattle.session_work.proofs.Excerpting.{edited, few_snapshots, go_on_after, go_on_before, go_on_grown, go_on_stopped, medit_reported, still_few}
use Rattle.session_work.proofs.Worked.{IsReportAfter, IsStateAfter}
use Rattle.session_work.proofs.more.MoreProgress.work_medit.Goals as goal

pub split-requires-clause-count : goal.split-requires-clause-count
split-requires-clause-count c = few_snapshots c.self.inside.plain.exchange.buffers c.in_ok-snapshots.snapshots.items c.in_ok-snapshots.ensures c.self.invariant.few

pub split-requires-clause-within : goal.split-requires-clause-within
split-requires-clause-within c =
    go_on_before c.self.inside.plain.exchange.buffers c.in_ok-snapshots.snapshots.items c.in_ok-snapshots.ensures c.args.name c.self.inside.excerpts c.self.invariant.excerpts

pub work_split-requires : goal.work_split-requires
work_split-requires c = c.self.invariant.few

pub returns-clause-report : goal.returns-clause-report
returns-clause-report c =
    let p = progress_of c.self.inside in
    let s = more_state_of p in
    let ys = settled_from 0 (parts_of c.in_ok-split.split) p.plain.exchange.buffers in
    let written = c.in_ok-write_event.ensures
    ∙ ap (λ (x : List ℕ). x ++ more_report_text (option_to_list c.medit_report-report.result)) (ap (λ v. v.items) c.in_ok-answer.ensures.report) in
    let settled = c.in_ok-answer.ensures.settled ∙ ap (λ (x : List ℕ). x ++ report_text ys) c.new-settled.ensures.items in
    let joined = c.in_ok-extend_from_slice.ensures.items ∙ ap (λ (x : List ℕ). c.write_event.new.out.items ++ x) c.as_slice.ensures.value in
    subst (IsReportAfter c.extend_from_slice.new.self.items (line.Medit c.args.name c.args.pieces.now)) c.self.view_is
    (medit_reported s c.args.name c.args.pieces.now c.in_ok-snapshots.snapshots.items c.in_ok-snapshots.ensures c.in_ok-split.split c.in_ok-split.ensures.answer
    p.plain.report.items c.write_event.new.out.items c.extend_from_slice.new.self.items c.work_split.new.out.items c.in_ok-answer.answer c.medit_report-report.result
    c.in_ok-answer.ensures.answer c.medit_report-report.ensures written settled joined)

pub returns-clause-state : goal.returns-clause-state
returns-clause-state c =
    let s = more_state_of (progress_of c.self.inside) in
    subst (IsStateAfter (record s { plain = state_of c.work_split.new.self; excerpts = c.split.new.self }) (line.Medit c.args.name c.args.pieces.now)) c.self.view_is
    (edited s c.args.name c.args.pieces.now c.in_ok-snapshots.snapshots.items c.in_ok-snapshots.ensures c.in_ok-split.split c.in_ok-split.ensures.answer
    (state_of c.work_split.new.self) c.split.new.self c.in_ok-answer.ensures.state c.in_ok-split.ensures.state)

pub invariant_of-self : goal.invariant_of-self
invariant_of-self c = record {
  few = c.self.invariant.few;
  folds = c.self.invariant.folds;
  excerpts = go_on_stopped c.self.inside.plain.exchange.buffers c.in_ok-snapshots.snapshots.items c.in_ok-snapshots.ensures c.args.name c.self.inside.excerpts c.self.invariant.excerpts c.split.new.self
      c.in_err-split.ensures.err;
}

pub invariant_of-self-in_err-answer : goal.invariant_of-self-in_err-answer
invariant_of-self-in_err-answer c =
    let bs = c.self.inside.plain.exchange.buffers in
    let cs = c.work_split.new.self.exchange.buffers in
    let after = go_on_after bs c.in_ok-snapshots.snapshots.items c.in_ok-snapshots.ensures c.args.name c.self.inside.excerpts c.self.invariant.excerpts c.split.new.self c.in_ok-split.ensures.state in
    record {
      few = still_few bs cs c.work_split.ensures.grows c.self.invariant.few;
      folds = behind_later bs cs c.self.inside.folds c.work_split.ensures.grows c.self.invariant.folds;
      excerpts = go_on_grown bs cs c.split.new.self c.work_split.ensures.grows after;
    }

pub invariant_of-self-in_err-write_event : goal.invariant_of-self-in_err-write_event
invariant_of-self-in_err-write_event c =
    let bs = c.self.inside.plain.exchange.buffers in
    let cs = c.work_split.new.self.exchange.buffers in
    let after = go_on_after bs c.in_ok-snapshots.snapshots.items c.in_ok-snapshots.ensures c.args.name c.self.inside.excerpts c.self.invariant.excerpts c.split.new.self c.in_ok-split.ensures.state in
    record {
      few = still_few bs cs c.work_split.ensures.grows c.self.invariant.few;
      folds = behind_later bs cs c.self.inside.folds c.work_split.ensures.grows c.self.invariant.folds;
      excerpts = go_on_grown bs cs c.split.new.self c.work_split.ensures.grows after;
    }

pub invariant_of-self-2 : goal.invariant_of-self-2
invariant_of-self-2 c =
    let bs = c.self.inside.plain.exchange.buffers in
    let cs = c.work_split.new.self.exchange.buffers in
    let after = go_on_after bs c.in_ok-snapshots.snapshots.items c.in_ok-snapshots.ensures c.args.name c.self.inside.excerpts c.self.invariant.excerpts c.split.new.self c.in_ok-split.ensures.state in
    record {
      few = still_few bs cs c.work_split.ensures.grows c.self.invariant.few;
      folds = behind_later bs cs c.self.inside.folds c.work_split.ensures.grows c.self.invariant.folds;
      excerpts = go_on_grown bs cs c.split.new.self c.work_split.ensures.grows after;
    }

pub invariant_of-self-in_err-extend_from_slice : goal.invariant_of-self-in_err-extend_from_slice
invariant_of-self-in_err-extend_from_slice c =
    let bs = c.self.inside.plain.exchange.buffers in
    let cs = c.work_split.new.self.exchange.buffers in
    let after = go_on_after bs c.in_ok-snapshots.snapshots.items c.in_ok-snapshots.ensures c.args.name c.self.inside.excerpts c.self.invariant.excerpts c.split.new.self c.in_ok-split.ensures.state in
    record {
      few = still_few bs cs c.work_split.ensures.grows c.self.invariant.few;
      folds = behind_later bs cs c.self.inside.folds c.work_split.ensures.grows c.self.invariant.folds;
      excerpts = go_on_grown bs cs c.split.new.self c.work_split.ensures.grows after;
    }
