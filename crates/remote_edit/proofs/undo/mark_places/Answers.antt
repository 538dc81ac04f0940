use Rattle.std.proofs.Common.{refl}
use Rattle.remote_edit.proofs.undo.mark_places.Goals as goal

pub returns-clause-marked : goal.returns-clause-marked
returns-clause-marked g c = record { fragments = c.in_ok-fragments.ensures.items; index = c.in_ok-index.ensures; moves = c.in_ok-moves.ensures.moves }

pub same-fragments : goal.same-fragments
same-fragments g c = refl

pub same-index : goal.same-index
same-index g c = refl
