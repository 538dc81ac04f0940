-- The first two examples of docs/MODEL.md. Letters: a 97, b 98, c 99, g 103, h 104, o 111, t 116, x 120.
use Rattle.std.proofs.Common.{◌≡◌, [], ◌∷◌, refl, Some}
use Rattle.op_model.specs.declared.operation.Operation.{Operation}
use Rattle.op_model.specs.Histories.{History, base}
use Rattle.op_model.specs.Shown.{text, full}
use Rattle.op_model.specs.Made.{local_edit, local_undo}
use Rattle.op_model.specs.Anchors.{left_anchor, right_anchor, place}
use Rattle.op_model.specs.declared.anchor.Anchor.TheVariants.{At}
use Rattle.op_model.specs.declared.anchor.Bias.TheVariants.{Left, Right}
use Rattle.op_model.specs.Since.{since}
use Rattle.op_model.proofs.rows.Worked.{stamp, piece, edit, undo, counts, v0, open_all}

abbrev cat : History
cat = base (99 ∷ 97 ∷ 116 ∷ []) ∷ []

abbrev insert_h : Operation
insert_h = edit 2 1 v0 (piece 1 1 (104 ∷ []) ∷ [])

abbrev delete_a : Operation
delete_a = edit 2 2 v0 (piece 1 2 [] ∷ [])

abbrev undo_delete : Operation
undo_delete = undo 4 2 ((0, 1) ∷ (1, 2) ∷ (2, 2) ∷ []) (counts 2 2 1 ∷ [])

first_made : (local_edit cat 1 (piece 1 1 (104 ∷ []) ∷ []) ≡ insert_h) × (local_edit cat 2 (piece 1 2 [] ∷ []) ≡ delete_a)
    × (local_undo (base (99 ∷ 97 ∷ 116 ∷ []) ∷ insert_h ∷ delete_a ∷ []) 2 (stamp 2 2 ∷ []) ≡ undo_delete)
unfolding open_all
first_made = (refl, refl, refl)

first_merged : (text (base (99 ∷ 97 ∷ 116 ∷ []) ∷ insert_h ∷ delete_a ∷ []) ≡ 99 ∷ 104 ∷ 116 ∷ [])
    × (text (base (99 ∷ 97 ∷ 116 ∷ []) ∷ delete_a ∷ insert_h ∷ []) ≡ 99 ∷ 104 ∷ 116 ∷ [])
    × (full (base (99 ∷ 97 ∷ 116 ∷ []) ∷ insert_h ∷ delete_a ∷ []) ≡ 99 ∷ 104 ∷ 97 ∷ 116 ∷ [])
unfolding open_all
first_merged = (refl, refl, refl)

first_undone : (text (base (99 ∷ 97 ∷ 116 ∷ []) ∷ insert_h ∷ delete_a ∷ undo_delete ∷ []) ≡ 99 ∷ 104 ∷ 97 ∷ 116 ∷ [])
    × (since (base (99 ∷ 97 ∷ 116 ∷ []) ∷ insert_h ∷ delete_a ∷ undo_delete ∷ []) v0 ≡ record { old = (1, 1); new = (1, 2) } ∷ [])
unfolding open_all
first_undone = (refl, refl)

abbrev go : History
go = base (103 ∷ 111 ∷ []) ∷ []

abbrev insert_a : Operation
insert_a = edit 2 1 v0 (piece 1 1 (97 ∷ []) ∷ [])

abbrev insert_b : Operation
insert_b = edit 3 1 ((0, 1) ∷ (1, 2) ∷ []) (piece 2 2 (98 ∷ []) ∷ [])

abbrev insert_x : Operation
insert_x = edit 2 2 v0 (piece 1 1 (120 ∷ []) ∷ [])

second_merged : (text (base (103 ∷ 111 ∷ []) ∷ insert_a ∷ insert_b ∷ insert_x ∷ []) ≡ 103 ∷ 120 ∷ 97 ∷ 98 ∷ 111 ∷ [])
    × (text (base (103 ∷ 111 ∷ []) ∷ insert_x ∷ insert_a ∷ insert_b ∷ []) ≡ 103 ∷ 120 ∷ 97 ∷ 98 ∷ 111 ∷ [])
unfolding open_all
second_merged = (refl, refl)

second_anchors : (left_anchor go 1 ≡ Some (At (stamp 1 0) 1 Left)) × (right_anchor go 1 ≡ Some (At (stamp 1 0) 1 Right))
    × (place (base (103 ∷ 111 ∷ []) ∷ insert_x ∷ insert_a ∷ insert_b ∷ []) (At (stamp 1 0) 1 Left) ≡ 1)
    × (place (base (103 ∷ 111 ∷ []) ∷ insert_x ∷ insert_a ∷ insert_b ∷ []) (At (stamp 1 0) 1 Right) ≡ 4)
unfolding open_all
second_anchors = (refl, refl, refl, refl)
