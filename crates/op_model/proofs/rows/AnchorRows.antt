-- Anchors in worked histories.
use Rattle.std.proofs.Common.{◌≡◌, [], ◌∷◌, refl, true, false, Some, None}
use Rattle.std.specs.declared.cmp.Ordering.TheVariants.{Less, Equal}
use Rattle.op_model.specs.declared.operation.Operation.{Operation}
use Rattle.op_model.specs.Histories.{History, base}
use Rattle.op_model.specs.Shown.{text}
use Rattle.op_model.specs.Made.{local_edit}
use Rattle.op_model.specs.Anchors.{left_anchor, right_anchor, place, compare_anchors, is_known, known_place, known_order, place_fault}
use Rattle.op_model.specs.declared.anchor.Anchor.TheVariants.{Least, Greatest, At}
use Rattle.op_model.specs.declared.anchor.Bias.TheVariants.{Left, Right}
use Rattle.op_model.specs.Since.{since, since_fault}
use Rattle.op_model.specs.declared.faults.SinceFault.TheVariants.{Unseen, OpenVersion}
use Rattle.op_model.specs.declared.faults.PlaceFault.TheVariants.{PastEnd, InsideChar}
use Rattle.op_model.proofs.rows.Worked.{stamp, piece, edit, v0, open_all}

abbrev start : History
start = base (97 ∷ 98 ∷ []) ∷ []

abbrev x_in : History
x_in = base (97 ∷ 98 ∷ []) ∷ edit 2 1 v0 (piece 1 1 (88 ∷ []) ∷ []) ∷ []

abbrev x_alone : History
x_alone = base (97 ∷ 98 ∷ []) ∷ edit 2 1 v0 (piece 1 1 (88 ∷ []) ∷ []) ∷ edit 3 1 ((0, 1) ∷ (1, 2) ∷ []) (piece 0 1 [] ∷ piece 2 3 [] ∷ []) ∷ []

made_left_and_right : (left_anchor start 1 ≡ Some (At (stamp 1 0) 1 Left)) × (right_anchor start 1 ≡ Some (At (stamp 1 0) 1 Right))
unfolding open_all
made_left_and_right = (refl, refl)

made_at_the_ends : (left_anchor start 0 ≡ Some Least) × (right_anchor start 2 ≡ Some Greatest)
unfolding open_all
made_at_the_ends = (refl, refl)

left_stays_before_an_insertion : (place x_in (At (stamp 1 0) 1 Left) ≡ 1) × (place x_in (At (stamp 1 0) 1 Right) ≡ 2)
unfolding open_all
left_stays_before_an_insertion = (refl, refl)

deleted_around : (place x_alone (At (stamp 1 0) 1 Left) ≡ 0) × (place x_alone (At (stamp 1 0) 1 Right) ≡ 1)
unfolding open_all
deleted_around = (refl, refl)

at_the_other_replica : place start (At (stamp 1 0) 1 Right) ≡ 1
unfolding open_all
at_the_other_replica = refl

left_less_than_right : (compare_anchors start (At (stamp 1 0) 1 Left) (At (stamp 1 0) 1 Right) ≡ Less) × (compare_anchors x_in (At (stamp 1 0) 1 Left) (At (stamp 1 0) 1 Right) ≡ Less)
    × (compare_anchors x_alone (At (stamp 1 0) 1 Left) (At (stamp 1 0) 1 Right) ≡ Less)
unfolding open_all
left_less_than_right = (refl, refl, refl)

equal_to_itself : compare_anchors x_alone (At (stamp 1 0) 1 Left) (At (stamp 1 0) 1 Left) ≡ Equal
unfolding open_all
equal_to_itself = refl

unknown_edit : (is_known start (At (stamp 2 1) 1 Left) ≡ false) × (is_known x_in (At (stamp 2 1) 1 Left) ≡ true) × (is_known x_in (At (stamp 2 1) 1 Right) ≡ false)
unfolding open_all
unknown_edit = (refl, refl, refl)

not_known_not_resolved : (known_place start (At (stamp 2 1) 1 Left) ≡ None) × (known_place x_in (At (stamp 1 0) 1 Left) ≡ Some 1)
    × (known_order start (At (stamp 2 1) 1 Left) Least ≡ None) × (known_order start Least (At (stamp 1 0) 1 Left) ≡ Some Less)
unfolding open_all
not_known_not_resolved = (refl, refl, refl, refl)

faults_of_places : (place_fault start 3 ≡ Some (PastEnd 2)) × (place_fault start 2 ≡ None) × (place_fault (base (195 ∷ 169 ∷ []) ∷ []) 1 ≡ Some InsideChar)
unfolding open_all
faults_of_places = (refl, refl, refl)

faults_of_since : (since_fault start ((0, 1) ∷ (1, 3) ∷ []) ≡ Some (Unseen 1)) × (since_fault x_alone ((0, 1) ∷ (1, 3) ∷ []) ≡ None)
    × (since_fault (base (97 ∷ 98 ∷ []) ∷ edit 3 1 v0 [] ∷ []) ((0, 1) ∷ (1, 2) ∷ []) ≡ Some (OpenVersion 1))
unfolding open_all
faults_of_since = (refl, refl, refl)

-- base abcd, X put in at 2, then 1..5 deleted
abbrev four : History
four = base (97 ∷ 98 ∷ 99 ∷ 100 ∷ []) ∷ []

abbrev insert_x : Operation
insert_x = edit 2 1 v0 (piece 2 2 (88 ∷ []) ∷ [])

abbrev delete_rest : Operation
delete_rest = edit 3 1 ((0, 1) ∷ (1, 2) ∷ []) (piece 1 5 [] ∷ [])

left_at_three : left_anchor four 3 ≡ Some (At (stamp 1 0) 3 Left)
unfolding open_all
left_at_three = refl

both_made : (local_edit four 1 (piece 2 2 (88 ∷ []) ∷ []) ≡ insert_x) × (local_edit (base (97 ∷ 98 ∷ 99 ∷ 100 ∷ []) ∷ insert_x ∷ []) 1 (piece 1 5 [] ∷ []) ≡ delete_rest)
unfolding open_all
both_made = (refl, refl)

moved_by_an_insertion : place (base (97 ∷ 98 ∷ 99 ∷ 100 ∷ []) ∷ insert_x ∷ []) (At (stamp 1 0) 3 Left) ≡ 4
unfolding open_all
moved_by_an_insertion = refl

moved_by_a_deletion : (place (base (97 ∷ 98 ∷ 99 ∷ 100 ∷ []) ∷ insert_x ∷ delete_rest ∷ []) (At (stamp 1 0) 3 Left) ≡ 1)
    × (text (base (97 ∷ 98 ∷ 99 ∷ 100 ∷ []) ∷ insert_x ∷ delete_rest ∷ []) ≡ 97 ∷ [])
unfolding open_all
moved_by_a_deletion = (refl, refl)

-- X was shown neither then nor is it now, so the run has one edit
since_over_a_passing_text : since (base (97 ∷ 98 ∷ 99 ∷ 100 ∷ []) ∷ insert_x ∷ delete_rest ∷ []) v0 ≡ record { old = (1, 4); new = (1, 1) } ∷ []
unfolding open_all
since_over_a_passing_text = refl
