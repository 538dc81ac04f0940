use Rattle.selections.proofs.Placing.{same_places}
use Rattle.selections.proofs.laws.same_sets_same_places.Goals as goal

pub returns : goal.returns
returns c = λ s o. same_places c.args.a.now c.args.b.now (c.snapshots_answer_alike.ensures s) o
