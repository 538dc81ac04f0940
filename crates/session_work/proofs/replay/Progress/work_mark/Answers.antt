use Rattle.std.proofs.Common.{◌≡◌, [], ◌∷◌, None, Some, refl, ap, ◌∙◌}
use Rattle.std.specs.Option.{option_map}
use Rattle.op_model.specs.Histories.{version}
use Rattle.session_lines.specs.declared.report.Report.TheVariants as report
use Rattle.session_lines.proofs.Reports.{line_reported}
use Rattle.session_work.specs.Names.{with_name}
use Rattle.session_work.specs.Work.{history_at}
use Rattle.session_work.specs.Working.{state_of}
use Rattle.session_work.proofs.Steps.{none_reported, one_reported, same_names}
use Rattle.session_work.proofs.replay.Progress.work_mark.Goals as goal

pub returns-in_default-clause-report : goal.returns-in_default-clause-report
returns-in_default-clause-report c =
    let s = state_of c.args.self.now in
    let e : None ≡ history_at c.args.id s = cc (c.in_default.is, c.in_ok-snapshot.ensures) in
    none_reported (λ h. report.Mark c.args.name ∷ []) (history_at c.args.id s) c.args.self.now.report.items e

pub returns-in_default-clause-state : goal.returns-in_default-clause-state
returns-in_default-clause-state c =
    let s = state_of c.args.self.now in
    let e : None ≡ history_at c.args.id s = cc (c.in_default.is, c.in_ok-snapshot.ensures) in
    same_names s s.anchors s.anchors s.marks _ refl (ap (λ h. with_name c.args.name (option_map version h) s.marks) e)

pub returns-clause-report : goal.returns-clause-report
returns-clause-report c =
    let s = state_of c.args.self.now in
    let e : Some c.in-Some.snapshot ≡ history_at c.args.id s = cc (c.in-Some.is, c.in_ok-snapshot.ensures) in
    one_reported (λ h. report.Mark c.args.name ∷ []) (history_at c.args.id s) c.in-Some.snapshot _ _ e
    (line_reported _ _ _ _ refl c.in_ok-write_line.ensures.ok)

pub returns-clause-state : goal.returns-clause-state
returns-clause-state c =
    let s = state_of c.args.self.now in
    let e : Some c.in-Some.snapshot ≡ history_at c.args.id s = cc (c.in-Some.is, c.in_ok-snapshot.ensures) in
    same_names s s.anchors s.anchors _ _ refl
    (c.in_ok-keep.ensures ∙ ap (λ v. with_name c.args.name v s.marks) (ap Some (c.in_ok-version.ensures ∙ c.version.ensures) ∙ ap (option_map version) e))
