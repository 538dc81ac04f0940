-- What worked histories show. Letters: a 97, b 98, c 99, d 100, P 80, Q 81, R 82, X 88, Y 89.
use Rattle.std.proofs.Common.{◌≡◌, [], ◌∷◌, refl, true, false}
use Rattle.op_model.specs.declared.operation.Operation.{Operation}
use Rattle.std.specs.List.{filter}
use Rattle.op_model.specs.Operations.{version_of}
use Rattle.op_model.specs.Histories.{History, base, seen_history}
use Rattle.op_model.specs.Cells.{seq, cells}
use Rattle.op_model.specs.Shown.{text, count, is_undone, deleters, deletes}
use Rattle.op_model.specs.Made.{local_edit, local_undo}
use Rattle.op_model.specs.Since.{since, text_at}
use Rattle.op_model.proofs.rows.Worked.{stamp, piece, edit, undo, counts, v0, open_all}

-- two edits of one value at one place: the greater replica stands first
abbrev x_then_y : History
x_then_y = base (97 ∷ 98 ∷ []) ∷ edit 2 1 v0 (piece 1 1 (88 ∷ []) ∷ []) ∷ edit 2 2 v0 (piece 1 1 (89 ∷ []) ∷ []) ∷ []

equal_values_at_one_place : text x_then_y ≡ 97 ∷ 89 ∷ 88 ∷ 98 ∷ []
unfolding open_all
equal_values_at_one_place = refl

equal_values_other_order : text (base (97 ∷ 98 ∷ []) ∷ edit 2 2 v0 (piece 1 1 (89 ∷ []) ∷ []) ∷ edit 2 1 v0 (piece 1 1 (88 ∷ []) ∷ []) ∷ []) ≡ 97 ∷ 89 ∷ 88 ∷ 98 ∷ []
unfolding open_all
equal_values_other_order = refl

-- b is deleted, Q goes in after it
abbrev b_gone : History
b_gone = base (97 ∷ 98 ∷ 99 ∷ []) ∷ edit 2 1 v0 (piece 1 2 [] ∷ []) ∷ []

abbrev insert_q : Operation
insert_q = edit 3 1 ((0, 1) ∷ (1, 2) ∷ []) (piece 2 2 (81 ∷ []) ∷ [])

insert_among_hidden_made : local_edit b_gone 1 (piece 1 1 (81 ∷ []) ∷ []) ≡ insert_q
unfolding open_all
insert_among_hidden_made = refl

insert_among_hidden : text (base (97 ∷ 98 ∷ 99 ∷ []) ∷ edit 2 1 v0 (piece 1 2 [] ∷ []) ∷ insert_q ∷ []) ≡ 97 ∷ 81 ∷ 99 ∷ []
unfolding open_all
insert_among_hidden = refl

insert_among_hidden_undone : text (base (97 ∷ 98 ∷ 99 ∷ []) ∷ edit 2 1 v0 (piece 1 2 [] ∷ []) ∷ insert_q ∷ undo 4 1 ((0, 1) ∷ (1, 3) ∷ []) (counts 2 1 1 ∷ []) ∷ []) ≡ 97 ∷ 98 ∷ 81 ∷ 99 ∷ []
unfolding open_all
insert_among_hidden_undone = refl

two_pieces_at_one_place : text (base (97 ∷ 98 ∷ []) ∷ edit 2 1 v0 (piece 1 1 (88 ∷ []) ∷ piece 1 2 (89 ∷ []) ∷ []) ∷ []) ≡ 97 ∷ 88 ∷ 89 ∷ []
unfolding open_all
two_pieces_at_one_place = refl

-- two undos of one edit count once, and one redo undoes both
abbrev undone_twice : History
undone_twice = base (97 ∷ 98 ∷ []) ∷ edit 2 1 v0 (piece 1 1 (88 ∷ []) ∷ []) ∷ undo 3 1 ((0, 1) ∷ (1, 2) ∷ []) (counts 2 1 1 ∷ [])
    ∷ undo 3 2 ((0, 1) ∷ (1, 2) ∷ []) (counts 2 1 1 ∷ []) ∷ []

abbrev redo : Operation
redo = undo 5 1 ((0, 1) ∷ (1, 3) ∷ (2, 3) ∷ []) (counts 2 1 2 ∷ [])

abbrev redone : History
redone = base (97 ∷ 98 ∷ []) ∷ edit 2 1 v0 (piece 1 1 (88 ∷ []) ∷ []) ∷ undo 3 1 ((0, 1) ∷ (1, 2) ∷ []) (counts 2 1 1 ∷ [])
    ∷ undo 3 2 ((0, 1) ∷ (1, 2) ∷ []) (counts 2 1 1 ∷ []) ∷ redo ∷ []

two_undos : text undone_twice ≡ 97 ∷ 98 ∷ []
unfolding open_all
two_undos = refl

redo_made : local_undo undone_twice 1 (stamp 2 1 ∷ []) ≡ redo
unfolding open_all
redo_made = refl

two_undos_redone : text redone ≡ 97 ∷ 88 ∷ 98 ∷ []
unfolding open_all
two_undos_redone = refl

greatest_count : (count undone_twice (stamp 2 1) ≡ 1) × (is_undone undone_twice (stamp 2 1) ≡ true)
unfolding open_all
greatest_count = (refl, refl)

greatest_count_redone : (count redone (stamp 2 1) ≡ 2) × (is_undone redone (stamp 2 1) ≡ false)
unfolding open_all
greatest_count_redone = (refl, refl)

undone_at_a_version : is_undone (seen_history redone ((1, 3) ∷ (2, 3) ∷ [])) (stamp 2 1) ≡ true
unfolding open_all
undone_at_a_version = refl

-- the second deletion takes a and c alone, since b was hidden
abbrev delete_over_hidden : Operation
delete_over_hidden = edit 3 1 ((0, 1) ∷ (1, 2) ∷ []) (piece 0 3 [] ∷ [])

abbrev twice_deleted : History
twice_deleted = base (97 ∷ 98 ∷ 99 ∷ []) ∷ edit 2 1 v0 (piece 1 2 [] ∷ []) ∷ delete_over_hidden ∷ undo 4 1 ((0, 1) ∷ (1, 3) ∷ []) (counts 2 1 1 ∷ []) ∷ []

delete_over_hidden_made : local_edit b_gone 1 (piece 0 2 [] ∷ []) ≡ delete_over_hidden
unfolding open_all
delete_over_hidden_made = refl

delete_over_hidden_text : text twice_deleted ≡ 98 ∷ []
unfolding open_all
delete_over_hidden_text = refl

delete_over_hidden_cells : filter (deletes twice_deleted delete_over_hidden) (cells (seq (seen_history twice_deleted (version_of delete_over_hidden)))) ≡ record { stamp = stamp 1 0; k = 0 } ∷ record { stamp = stamp 1 0; k = 2 } ∷ []
unfolding open_all
delete_over_hidden_cells = refl

hidden_cell_deleted_once : deleters twice_deleted (record { stamp = stamp 1 0; k = 1 }) ≡ stamp 2 1 ∷ []
unfolding open_all
hidden_cell_deleted_once = refl

-- R, later than P, stands before the whole branch of P, Q too
late_branch : text (base (97 ∷ 98 ∷ []) ∷ edit 2 1 v0 (piece 1 1 (80 ∷ []) ∷ []) ∷ edit 3 1 ((0, 1) ∷ (1, 2) ∷ []) (piece 2 2 (81 ∷ []) ∷ [])
    ∷ edit 2 2 v0 (piece 1 1 (82 ∷ []) ∷ []) ∷ []) ≡ 97 ∷ 82 ∷ 80 ∷ 81 ∷ 98 ∷ []
unfolding open_all
late_branch = refl

late_branch_first : text (base (97 ∷ 98 ∷ []) ∷ edit 2 2 v0 (piece 1 1 (82 ∷ []) ∷ []) ∷ edit 2 1 v0 (piece 1 1 (80 ∷ []) ∷ [])
    ∷ edit 3 1 ((0, 1) ∷ (1, 2) ∷ []) (piece 2 2 (81 ∷ []) ∷ []) ∷ []) ≡ 97 ∷ 82 ∷ 80 ∷ 81 ∷ 98 ∷ []
unfolding open_all
late_branch_first = refl

late_branch_between : text (base (97 ∷ 98 ∷ []) ∷ edit 2 1 v0 (piece 1 1 (80 ∷ []) ∷ []) ∷ edit 2 2 v0 (piece 1 1 (82 ∷ []) ∷ [])
    ∷ edit 3 1 ((0, 1) ∷ (1, 2) ∷ []) (piece 2 2 (81 ∷ []) ∷ []) ∷ []) ≡ 97 ∷ 82 ∷ 80 ∷ 81 ∷ 98 ∷ []
unfolding open_all
late_branch_between = refl

-- Y, put into a range that another edit replaces, stays; the undone range returns around it
abbrev crossed : History
crossed = base (97 ∷ 98 ∷ 99 ∷ 100 ∷ []) ∷ edit 2 1 v0 (piece 1 3 (88 ∷ []) ∷ []) ∷ edit 2 2 v0 (piece 2 2 (89 ∷ []) ∷ []) ∷ []

insert_into_a_replaced_range : text crossed ≡ 97 ∷ 88 ∷ 89 ∷ 100 ∷ []
unfolding open_all
insert_into_a_replaced_range = refl

replaced_range_undo_made : local_undo crossed 1 (stamp 2 1 ∷ []) ≡ undo 4 1 ((0, 1) ∷ (1, 2) ∷ (2, 2) ∷ []) (counts 2 1 1 ∷ [])
unfolding open_all
replaced_range_undo_made = refl

replaced_range_undone : text (base (97 ∷ 98 ∷ 99 ∷ 100 ∷ []) ∷ edit 2 1 v0 (piece 1 3 (88 ∷ []) ∷ []) ∷ edit 2 2 v0 (piece 2 2 (89 ∷ []) ∷ [])
    ∷ undo 4 1 ((0, 1) ∷ (1, 2) ∷ (2, 2) ∷ []) (counts 2 1 1 ∷ []) ∷ []) ≡ 97 ∷ 98 ∷ 89 ∷ 99 ∷ 100 ∷ []
unfolding open_all
replaced_range_undone = refl

-- X goes in, then b goes
abbrev b_replaced : History
b_replaced = base (97 ∷ 98 ∷ []) ∷ edit 2 1 v0 (piece 1 1 (88 ∷ []) ∷ []) ∷ edit 3 1 ((0, 1) ∷ (1, 2) ∷ []) (piece 2 3 [] ∷ []) ∷ []

since_the_base : since b_replaced v0 ≡ record { old = (1, 2); new = (1, 2) } ∷ []
unfolding open_all
since_the_base = refl

text_at_the_base : text_at b_replaced v0 ≡ 97 ∷ 98 ∷ []
unfolding open_all
text_at_the_base = refl
