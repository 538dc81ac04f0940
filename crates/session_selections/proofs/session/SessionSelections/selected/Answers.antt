use Rattle.std.proofs.Common.{◌≡◌, None, Some, ap, subst, ◌∙◌}
use Rattle.session_more.specs.declared.report.MoreReport.TheVariants.{Selected}
use Rattle.session_selections.specs.Lines.{selected_report}
use Rattle.session_selections.specs.Names.{by_bytes}
use Rattle.session_selections.specs.State.{SelectionWork, sets_of}
use Rattle.session_selections.proofs.Reported.{none-found, selected-report}
use Rattle.session_selections.proofs.session.SessionSelections.selected.Goals as goal

pub returns-in_default : goal.returns-in_default
returns-in_default c =
    let v : SelectionWork = record { sets = c.self.inside.replicas.items; selects = by_bytes c.self.inside.selects.entries } in
    subst (λ (w : SelectionWork). None ≡ selected_report c.args.id c.args.author c.args.snapshot.now w) c.self.view_is
    (none-found c.args.id c.args.author c.args.snapshot.now v (c.in_default.ensures ∙ ap (sets_of c.args.id) c.deref.ensures.value))

pub returns : goal.returns
returns c =
    let v : SelectionWork = record { sets = c.self.inside.replicas.items; selects = by_bytes c.self.inside.selects.entries } in
    subst (λ (w : SelectionWork). Some (Selected c.args.author c.args.id c.in_ok-answer.answer) ≡ selected_report c.args.id c.args.author c.args.snapshot.now w) c.self.view_is
    (selected-report c.args.id c.args.author c.args.snapshot.now v c.in-Some.sets.now c.in_ok-answer.answer (c.in-Some.ensures ∙ ap (sets_of c.args.id) c.deref.ensures.value) c.in_ok-answer.ensures)
