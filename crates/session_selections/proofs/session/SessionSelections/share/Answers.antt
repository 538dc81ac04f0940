use Rattle.std.proofs.Common.{◌≡◌, None, Some, ap, subst, ◌∙◌}
use Rattle.std.specs.List.{position}
use Rattle.session_more.specs.declared.report.MoreReport.TheVariants.{Share}
use Rattle.session_selections.specs.Lines.{after_share, share_report}
use Rattle.session_selections.specs.Names.{by_bytes}
use Rattle.session_selections.specs.State.{SelectionWork}
use Rattle.session_selections.proofs.Finding.{is_own}
use Rattle.session_selections.proofs.Reported.{none-shared, none-took, share-report, share-sets}
use Rattle.session_selections.proofs.session.SessionSelections.share.Goals as goal

pub returns-in_default-clause-report : goal.returns-in_default-clause-report
returns-in_default-clause-report c =
    let v : SelectionWork = record { sets = c.self.inside.replicas.items; selects = by_bytes c.self.inside.selects.entries } in
    let at : None ≡ position (is_own c.args.id) v.sets = c.in_default.ensures ∙ ap (position (is_own c.args.id)) c.deref.ensures.value in
    subst (λ (w : SelectionWork). None ≡ share_report c.args.id c.args.name w) c.self.view_is (none-shared c.args.id v at c.args.name)

pub returns-in_default-clause-state : goal.returns-in_default-clause-state
returns-in_default-clause-state c =
    let v : SelectionWork = record { sets = c.self.inside.replicas.items; selects = by_bytes c.self.inside.selects.entries } in
    let at : None ≡ position (is_own c.args.id) v.sets = c.in_default.ensures ∙ ap (position (is_own c.args.id)) c.deref.ensures.value in
    subst (λ (w : SelectionWork). w ≡ after_share c.args.id c.args.name w) c.self.view_is (none-took c.args.id v at c.args.name)

pub returns-clause-report : goal.returns-clause-report
returns-clause-report c =
    let v : SelectionWork = record { sets = c.self.inside.replicas.items; selects = by_bytes c.self.inside.selects.entries } in
    let at : Some c.in-Some.index ≡ position (is_own c.args.id) v.sets = c.in-Some.ensures ∙ ap (position (is_own c.args.id)) c.deref.ensures.value in
    subst (λ (w : SelectionWork). Some (Share c.args.name c.args.id c.in_ok-answer.answer) ≡ share_report c.args.id c.args.name w) c.self.view_is
    (share-report c.args.id v c.in-Some.index c.index_mut.result.now at c.index_mut.ensures.value c.args.name c.in_ok-op.op c.in_ok-answer.answer c.in_ok-op.ensures c.in_ok-answer.ensures.answer)

pub returns-clause-state : goal.returns-clause-state
returns-clause-state c =
    let v : SelectionWork = record { sets = c.self.inside.replicas.items; selects = by_bytes c.self.inside.selects.entries } in
    let at : Some c.in-Some.index ≡ position (is_own c.args.id) v.sets = c.in-Some.ensures ∙ ap (position (is_own c.args.id)) c.deref.ensures.value in
    let sets = share-sets c.args.id v c.in-Some.index c.index_mut.result.now at c.index_mut.ensures.value c.args.name c.in_ok-op.op c.share.new.self c.in_ok-op.ensures c.in_ok-answer.ensures.after in
    let left : record { sets = _; selects = v.selects } ≡ after_share c.args.id c.args.name v = λ k. record { sets = sets k; selects = v.selects } in
    left ∙ ap (after_share c.args.id c.args.name) c.self.view_is
