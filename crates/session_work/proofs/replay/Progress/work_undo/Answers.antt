use Rattle.std.proofs.Common.{◌≡◌, ℕ, List, ◌++◌, OnOk, subst}
use Rattle.session_lines.specs.Report.{report_text}
use Rattle.session_lines.specs.declared.session.SessionLine.TheVariants as line
use Rattle.session_work.specs.Names.{by_bytes}
use Rattle.session_work.specs.Work.{State, events, step}
use Rattle.session_work.specs.Working.{state_of}
use Rattle.session_work.proofs.Steps.{ok_state}
use Rattle.session_work.proofs.replay.Progress.work_undo.Goals as goal

pub returns-clause-report : goal.returns-clause-report
returns-clause-report c =
    subst (λ (ms : List ℕ). OnOk c.undo.result (c.undo.new.out.items ≡ c.args.self.now.report.items ++ report_text (events (line.Undo c.args.id ms) (state_of c.args.self.now))))
    c.as_slice.ensures c.undo.ensures.report

pub returns-clause-state : goal.returns-clause-state
returns-clause-state c =
    let ns = by_bytes c.args.self.now.anchors.entries in
    let ms = by_bytes c.args.self.now.marks.entries in
    let new : State = record { buffers = c.undo.new.self.buffers; operations = c.undo.new.self.operations; anchors = ns; marks = ms } in
    subst (λ (ls : List ℕ). OnOk c.undo.result (new ≡ step (line.Undo c.args.id ls) (state_of c.args.self.now)))
    c.as_slice.ensures (ok_state ns ms c.undo.result _ _ _ _ c.undo.ensures.buffers c.undo.ensures.operations)
