use Rattle.std.proofs.Common.{◌≡◌, Some, IfOk, refl, subst}
use Rattle.selections.specs.Places.{places_of}
use Rattle.selections.specs.Sets.{SelectionState, kept_for}
use Rattle.selections.specs.declared.faults.PlacesFault.TheVariants.{OutOfMemory}
use Rattle.session_selections.specs.Answers.{selected_answer}
use Rattle.session_selections.proofs.Outcomes.{is_outcome, said_of}
use Rattle.session_selections.proofs.replica.ReplicaSets.selected.Goals as goal

pub returns : goal.returns
returns c =
    let p = places_of c.args.snapshot.now (kept_for c.args.author c.self.inside.sets) in
    let or = is_outcome _ c.places.result p OutOfMemory c.places.ensures.places c.places.ensures.fault in
    subst (λ (s : SelectionState). IfOk c.selected_answer.result (λ x. selected_answer (places_of c.args.snapshot.now (kept_for c.args.author s)) ≡ Some x)) c.self.view_is
    (said_of selected_answer c.places.result p OutOfMemory c.selected_answer.result refl or c.selected_answer.ensures)
