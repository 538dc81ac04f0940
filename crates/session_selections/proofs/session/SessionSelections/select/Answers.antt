use Rattle.std.proofs.Common.{◌≡◌, ◌⊎◌, None, Some, Result, Ok, Err, OnErr, set, ap, subst, ◌∙◌}
use Rattle.std.specs.List.{position}
use Rattle.session_more.specs.declared.report.MoreReport.TheVariants.{Select}
use Rattle.session_selections.specs.Lines.{after_select, select_report, sets_after_select}
use Rattle.session_selections.specs.Names.{by_bytes}
use Rattle.session_selections.specs.State.{SelectionWork}
use Rattle.session_selections.proofs.Finding.{is_own}
use Rattle.session_selections.proofs.Reported.{none-kept, none-selected, select-err, select-names, select-report, select-sets}
use Rattle.session_selections.proofs.session.SessionSelections.select.Goals as goal

pub returns-in_default-clause-report : goal.returns-in_default-clause-report
returns-in_default-clause-report c =
    let v : SelectionWork = record { sets = c.self.inside.replicas.items; selects = by_bytes c.self.inside.selects.entries } in
    let at : None ≡ position (is_own c.args.id) v.sets = c.in_default.ensures ∙ ap (position (is_own c.args.id)) c.deref.ensures.value in
    subst (λ (w : SelectionWork). None ≡ select_report c.args.id c.args.name c.args.ranges.now c.args.snapshot.now w) c.self.view_is (none-selected c.args.id v at c.args.name c.args.ranges.now c.args.snapshot.now)

pub returns-in_default-clause-state : goal.returns-in_default-clause-state
returns-in_default-clause-state c =
    let v : SelectionWork = record { sets = c.self.inside.replicas.items; selects = by_bytes c.self.inside.selects.entries } in
    let at : None ≡ position (is_own c.args.id) v.sets = c.in_default.ensures ∙ ap (position (is_own c.args.id)) c.deref.ensures.value in
    subst (λ (w : SelectionWork). w ≡ after_select c.args.id c.args.name c.args.ranges.now c.args.snapshot.now w) c.self.view_is (none-kept c.args.id v at c.args.name c.args.ranges.now c.args.snapshot.now)

pub returns-clause-report : goal.returns-clause-report
returns-clause-report c =
    let v : SelectionWork = record { sets = c.self.inside.replicas.items; selects = by_bytes c.self.inside.selects.entries } in
    let at : Some c.in-Some.index ≡ position (is_own c.args.id) v.sets = c.in-Some.ensures ∙ ap (position (is_own c.args.id)) c.deref.ensures.value in
    subst (λ (w : SelectionWork). Some (Select c.args.name c.in_ok-answer.answer) ≡ select_report c.args.id c.args.name c.args.ranges.now c.args.snapshot.now w) c.self.view_is
    (select-report c.args.id v c.in-Some.index c.index_mut.result.now at c.index_mut.ensures.value c.args.name c.args.ranges.now c.args.snapshot.now c.set-made.result c.set-made.ensures.outcome c.in_ok-answer.answer c.in_ok-answer.ensures.answer)

pub returns-clause-state : goal.returns-clause-state
returns-clause-state c =
    let v : SelectionWork = record { sets = c.self.inside.replicas.items; selects = by_bytes c.self.inside.selects.entries } in
    let at : Some c.in-Some.index ≡ position (is_own c.args.id) v.sets = c.in-Some.ensures ∙ ap (position (is_own c.args.id)) c.deref.ensures.value in
    let sets = select-sets c.args.id v c.in-Some.index c.index_mut.result.now at c.index_mut.ensures.value c.args.name c.args.ranges.now c.args.snapshot.now c.set-made.result c.set-made.ensures.outcome
    c.in_ok-answer.answer c.in_ok-answer.ensures.answer c.set-made.new.self c.set-made.ensures.after in
    let names = select-names c.args.id v c.in-Some.index c.index_mut.result.now at c.index_mut.ensures.value c.args.name c.args.ranges.now c.args.snapshot.now c.set-made.result c.set-made.ensures.outcome
    c.in_ok-answer.answer c.in_ok-answer.ensures.answer (by_bytes c.keep_made.new.selects.entries) c.in_ok-answer.ensures.selects in
    let left : record { sets = _; selects = _ } ≡ after_select c.args.id c.args.name c.args.ranges.now c.args.snapshot.now v = λ k. record { sets = sets k; selects = names k } in
    left ∙ ap (after_select c.args.id c.args.name c.args.ranges.now c.args.snapshot.now) c.self.view_is

-- what holds anyway holds after an error
on_err : {T E : Type 0} (x : Result T E) (P : Type 0) → P → OnErr x P
on_err (Ok v) P p = tt
on_err (Err e) P p = p

pub returns-in_err-answer-clause-sets : goal.returns-in_err-answer-clause-sets
returns-in_err-answer-clause-sets c =
    let v : SelectionWork = record { sets = c.self.inside.replicas.items; selects = by_bytes c.self.inside.selects.entries } in
    let at : Some c.in-Some.index ≡ position (is_own c.args.id) v.sets = c.in-Some.ensures ∙ ap (position (is_own c.args.id)) c.deref.ensures.value in
    on_err c.from_residual.result _
    (subst (λ (w : SelectionWork). (set v.sets c.in-Some.index c.set-made.new.self ≡ w.sets) ⊎ (set v.sets c.in-Some.index c.set-made.new.self ≡ sets_after_select c.args.id c.args.ranges.now c.args.snapshot.now w.sets)) c.self.view_is
    (select-err c.args.id v c.in-Some.index c.index_mut.result.now at c.index_mut.ensures.value c.args.name c.args.ranges.now c.args.snapshot.now c.set-made.result c.set-made.ensures.outcome c.set-made.new.self c.set-made.ensures.after))
