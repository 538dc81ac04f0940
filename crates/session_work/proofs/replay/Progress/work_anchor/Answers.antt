use Rattle.std.proofs.Common.{◌≡◌, [], ◌∷◌, None, Some, option_and_then, refl, ap, ◌∙◌}
use Rattle.op_model.specs.Anchors.{place_fault}
use Rattle.session_lines.specs.declared.report.Report.TheVariants as report
use Rattle.session_lines.proofs.Reports.{line_reported}
use Rattle.session_work.specs.Names.{anchor_answer, new_anchor, with_name}
use Rattle.session_work.specs.Work.{history_at}
use Rattle.session_work.specs.Working.{state_of}
use Rattle.session_work.proofs.Named.{made_is}
use Rattle.session_work.proofs.Steps.{none_reported, one_reported, same_names}
use Rattle.session_work.proofs.replay.Progress.work_anchor.Goals as goal

pub returns-in_default-clause-report : goal.returns-in_default-clause-report
returns-in_default-clause-report c =
    let s = state_of c.args.self.now in
    let e : None ≡ history_at c.args.id s = cc (c.in_default.is, c.in_ok-snapshot.ensures) in
    none_reported (λ h. report.Anchor c.args.name (anchor_answer (place_fault h c.args.offset)) ∷ []) (history_at c.args.id s) c.args.self.now.report.items e

pub returns-in_default-clause-state : goal.returns-in_default-clause-state
returns-in_default-clause-state c =
    let s = state_of c.args.self.now in
    let e : None ≡ history_at c.args.id s = cc (c.in_default.is, c.in_ok-snapshot.ensures) in
    same_names s s.anchors _ s.marks s.marks (ap (λ h. with_name c.args.name (option_and_then (new_anchor c.args.offset c.args.bias) h) s.anchors) e) refl

pub returns-clause-report : goal.returns-clause-report
returns-clause-report c =
    let s = state_of c.args.self.now in
    let h = c.in-Some.snapshot in
    let e : Some h ≡ history_at c.args.id s = cc (c.in-Some.is, c.in_ok-snapshot.ensures) in
    let answer : c.in_ok-answer.answer ≡ anchor_answer (place_fault h c.args.offset) = c.in_ok-answer.ensures.answer ∙ ap anchor_answer c.anchor-made.ensures.fault in
    one_reported (λ h. report.Anchor c.args.name (anchor_answer (place_fault h c.args.offset)) ∷ []) (history_at c.args.id s) h _ _ e
    (line_reported _ _ _ _ (ap (report.Anchor c.args.name) answer) c.in_ok-write_line.ensures.ok)

pub returns-clause-state : goal.returns-clause-state
returns-clause-state c =
    let s = state_of c.args.self.now in
    let h = c.in-Some.snapshot in
    let e : Some h ≡ history_at c.args.id s = cc (c.in-Some.is, c.in_ok-snapshot.ensures) in
    let made = made_is c.args.offset c.args.bias h c.anchor-made.result c.anchor-made.ensures.fault c.anchor-made.ensures.anchor in
    same_names s _ _ s.marks s.marks
    (c.in_ok-answer.ensures.anchors ∙ ap (λ x. with_name c.args.name x s.anchors) (made ∙ ap (option_and_then (new_anchor c.args.offset c.args.bias)) e)) refl
