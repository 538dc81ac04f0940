use Rattle.std.proofs.Common.{ℕ, ◌++◌, ◌∙◌, ap, arith}
use Rattle.std.proofs.lemmas.Result.{IfOk-weaker}
use Rattle.session_maker.specs.Made.{rounds_from}
use Rattle.session_maker.proofs.Ids.{ids_again, ids_are_editors, ids_counted}
use Rattle.session_work.specs.Making.{length_at, made_opening, made_session, summary_of}
use Rattle.session_work.specs.MakingOn.{work_state}
use Rattle.session_work.specs.Work.{after_all}
use Rattle.session_work.specs.declared.making.Making.{Making}
use Rattle.session_work.proofs.Rounds.{summed}
use Rattle.session_work.proofs.making.make.Goals as goal

pub new-requires-clause-counted : goal.new-requires-clause-counted
new-requires-clause-counted c = ids_again _ c.args.replicas (c.as_slice.ensures.value ∙ c.in_ok-ids.ensures)

pub new-requires-clause-ids : goal.new-requires-clause-ids
new-requires-clause-ids c = ids_are_editors _ c.args.replicas (c.as_slice.ensures.value ∙ c.in_ok-ids.ensures) c.requires.few

pub work_rounds-requires-clause-few : goal.work_rounds-requires-clause-few
work_rounds-requires-clause-few c = omega (arith, ids_counted _ c.args.replicas (c.as_slice-2.ensures.value ∙ c.in_ok-ids.ensures), c.requires.few)

pub work_rounds-requires-clause-counted : goal.work_rounds-requires-clause-counted
work_rounds-requires-clause-counted c = ids_again _ c.args.replicas (c.as_slice-2.ensures.value ∙ c.in_ok-ids.ensures)

pub returns : goal.returns
returns c =
    let n : ℕ = c.args.replicas in
    let edits : ℕ = c.from-edits.result in
    let making : Making = c.in_ok-making.making in
    let first = ids_counted _ n (c.as_slice.ensures.value ∙ c.in_ok-ids.ensures) in
    let second = ids_counted _ n (c.as_slice-2.ensures.value ∙ c.in_ok-ids.ensures) in
    let lines = c.in_ok-work_rounds.ensures.lines ∙ ap (λ k. making.lines.items ++ rounds_from after_all length_at k edits 1 making.draws (work_state making)) second in
    let state = c.in_ok-work_rounds.ensures.state ∙ ap (λ k. after_all (rounds_from after_all length_at k edits 1 making.draws (work_state making)) (work_state making)) second in
    let sum = summed making c.work_rounds.new.self c.give_all.new.self c.args.seed n edits c.as_slice-3.result.now c.as_slice-4.result.now (c.in_ok-making.ensures.state ∙ ap made_opening first) c.in_ok-making.ensures.draws c.in_ok-making.ensures.lines lines state
    c.in_ok-give_all.ensures (c.as_slice-3.ensures.value ∙ c.in_ok-ids.ensures) (c.as_slice-4.ensures.value ∙ c.in_ok-numbers.ensures) in
    IfOk-weaker c.summary.result _ _ (λ v h. h ∙ sum ∙ ap (λ e. summary_of (made_session c.args.seed n e)) c.from-edits.ensures) c.summary.ensures
