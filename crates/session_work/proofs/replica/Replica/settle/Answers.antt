use Rattle.std.proofs.Common.{◌≡◌, ◌++◌, ap, ◌∙◌}
use Rattle.session_lines.specs.Report.{report_text}
use Rattle.text_buffer.specs.Buffer.{BufferState}
use Rattle.session_work.specs.Work.{settled_reports}
use Rattle.session_work.proofs.Growth.{grown_by_settle}
use Rattle.session_work.proofs.Reports.{none_settled, some_settled}
use Rattle.session_work.proofs.replica.Replica.settle.Goals as goal

pub returns-then-count-eq0-clause-report : goal.returns-then-count-eq0-clause-report
returns-then-count-eq0-clause-report c =
    let same : c.self.inside.buffer ≡ c.args.self.now = cc c.self.view_is in
    none_settled _ _ _ c.in_ok-count.ensures.new c.in_ok-count.ensures.applied c.args.out.now.items c.if-count-eq0.true
    ∙ ap (λ (b : BufferState). c.args.out.now.items ++ report_text (settled_reports b)) same

pub returns-clause-report : goal.returns-clause-report
returns-clause-report c =
    let same : c.self.inside.buffer ≡ c.args.self.now = cc c.self.view_is in
    some_settled _ _ _ c.in_ok-count.ensures.new c.in_ok-count.ensures.applied _ _ _ c.if-count-eq0.false c.self.invariant c.in_ok-write_line.ensures.ok
    ∙ ap (λ (b : BufferState). c.args.out.now.items ++ report_text (settled_reports b)) same

pub returns-in_err-count-clause-grows : goal.returns-in_err-count-clause-grows
returns-in_err-count-clause-grows c = grown_by_settle c.settle.result c.args.self.now c.self.inside.buffer c.settle.new.self (cc c.self.view_is) c.settle.ensures.new c.settle.ensures.stopped

pub returns-then-count-eq0-clause-grows : goal.returns-then-count-eq0-clause-grows
returns-then-count-eq0-clause-grows c = grown_by_settle c.settle.result c.args.self.now c.self.inside.buffer c.settle.new.self (cc c.self.view_is) c.settle.ensures.new c.settle.ensures.stopped

pub returns-in_err-write_line-clause-grows : goal.returns-in_err-write_line-clause-grows
returns-in_err-write_line-clause-grows c = grown_by_settle c.settle.result c.args.self.now c.self.inside.buffer c.settle.new.self (cc c.self.view_is) c.settle.ensures.new c.settle.ensures.stopped

pub returns-clause-grows : goal.returns-clause-grows
returns-clause-grows c = grown_by_settle c.settle.result c.args.self.now c.self.inside.buffer c.settle.new.self (cc c.self.view_is) c.settle.ensures.new c.settle.ensures.stopped
