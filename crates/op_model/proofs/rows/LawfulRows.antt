-- The premises can be met: worked histories are lawful, and the laws apply to them.
use Rattle.std.proofs.Common.{◌≡◌, [], ◌∷◌, refl}
use Rattle.lamport_clock.specs.Versions.{sees}
use Rattle.op_model.specs.declared.operation.Operation.{Operation}
use Rattle.op_model.specs.Histories.{base}
use Rattle.op_model.specs.Cells.{seq}
use Rattle.op_model.specs.Laid.{lay}
use Rattle.op_model.specs.Lawful.{Lawful, Honest, IsClosed}
use Rattle.op_model.proofs.rows.Worked.{open_all, stamp, piece, edit, undo, counts, v0}
use Rattle.op_model.proofs.answers.Good.{lawful_ready, Ready}

abbrev p : Operation
p = edit 2 1 v0 (piece 1 1 (80 ∷ []) ∷ [])

abbrev q : Operation
q = edit 3 1 ((0, 1) ∷ (1, 2) ∷ []) (piece 2 2 (81 ∷ []) ∷ [])

abbrev r : Operation
r = edit 2 2 v0 (piece 1 1 (82 ∷ []) ∷ [])

abbrev u : Operation
u = undo 5 1 ((0, 1) ∷ (1, 3) ∷ (2, 2) ∷ []) (counts 2 1 1 ∷ [])

one_order : Lawful (base (97 ∷ 98 ∷ []) ∷ p ∷ q ∷ r ∷ u ∷ [])
unfolding open_all
one_order = ((97 ∷ 98 ∷ [], refl), (refl, (refl, (refl, (refl, tt)))))

other_order : Lawful (base (97 ∷ 98 ∷ []) ∷ r ∷ p ∷ q ∷ u ∷ [])
unfolding open_all
other_order = ((97 ∷ 98 ∷ [], refl), (refl, (refl, (refl, (refl, tt)))))

any_order_is_honest : Honest (u ∷ q ∷ p ∷ base (97 ∷ 98 ∷ []) ∷ r ∷ [])
unfolding open_all
any_order_is_honest = ((97 ∷ 98 ∷ [], refl), (refl, (refl, (refl, (refl, tt)))))

closed_version : IsClosed (base (97 ∷ 98 ∷ []) ∷ p ∷ q ∷ r ∷ u ∷ []) ((0, 1) ∷ (1, 3) ∷ [])
unfolding open_all
closed_version = (refl, refl)

ready : Ready (base (97 ∷ 98 ∷ []) ∷ p ∷ q ∷ r ∷ u ∷ [])
ready = lawful_ready (base (97 ∷ 98 ∷ []) ∷ p ∷ q ∷ r ∷ u ∷ []) one_order

-- the late r, laid in: nothing is passed, as 2.1 is smaller than 2.2
late_greater : lay (sees v0) (stamp 2 2) 0 (piece 1 1 (82 ∷ []) ∷ []) (seq (base (97 ∷ 98 ∷ []) ∷ p ∷ q ∷ [])) ≡ seq (base (97 ∷ 98 ∷ []) ∷ p ∷ q ∷ r ∷ [])
unfolding open_all
late_greater = refl

-- the late p, laid in: r is passed, and b is not
late_smaller : lay (sees v0) (stamp 2 1) 0 (piece 1 1 (80 ∷ []) ∷ []) (seq (base (97 ∷ 98 ∷ []) ∷ r ∷ [])) ≡ seq (base (97 ∷ 98 ∷ []) ∷ r ∷ p ∷ [])
unfolding open_all
late_smaller = refl
