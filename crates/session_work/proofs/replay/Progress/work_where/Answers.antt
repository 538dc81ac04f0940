use Rattle.std.proofs.Common.{◌≡◌, [], ◌∷◌, None, Some, ap, ◌∙◌}
use Rattle.session_lines.specs.declared.report.Report.TheVariants as report
use Rattle.session_lines.proofs.Reports.{line_reported}
use Rattle.session_work.specs.Names.{under, where_answer}
use Rattle.session_work.specs.Work.{history_at}
use Rattle.session_work.specs.Working.{state_of}
use Rattle.session_work.proofs.Steps.{none_reported, one_reported}
use Rattle.session_work.proofs.replay.Progress.work_where.Goals as goal

pub returns-in_default-clause-report : goal.returns-in_default-clause-report
returns-in_default-clause-report c =
    let s = state_of c.args.self.now in
    let e : None ≡ history_at c.args.id s = cc (c.in_default.is, c.in_ok-snapshot.ensures) in
    none_reported (λ h. report.Where c.args.name c.args.id (where_answer (under c.args.name s.anchors) h) ∷ []) (history_at c.args.id s) c.args.self.now.report.items e

pub returns-clause-report : goal.returns-clause-report
returns-clause-report c =
    let s = state_of c.args.self.now in
    let h = c.in-Some.snapshot in
    let e : Some h ≡ history_at c.args.id s = cc (c.in-Some.is, c.in_ok-snapshot.ensures) in
    let answer : c.where_answer-answer.result ≡ where_answer (under c.args.name s.anchors) h = c.where_answer-answer.ensures ∙ ap (λ a. where_answer a h) c.find.ensures in
    one_reported (λ h. report.Where c.args.name c.args.id (where_answer (under c.args.name s.anchors) h) ∷ []) (history_at c.args.id s) h _ _ e
    (line_reported _ _ _ _ (ap (report.Where c.args.name c.args.id) answer) c.in_ok-write_line.ensures.ok)
