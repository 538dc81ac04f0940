-- Calls of a buffer one after the other, in worked runs.
use Rattle.std.proofs.Common.{◌≡◌, [], ◌∷◌, refl}
use Rattle.op_model.specs.declared.operation.Operation.{Operation}
use Rattle.op_model.specs.declared.faults.OpFault.TheVariants.{Forked, OpenVersion, PastEnd}
use Rattle.op_model.specs.Histories.{base}
use Rattle.op_model.specs.Shown.{text}
use Rattle.op_model.specs.Answers.Answer.{Waits}
use Rattle.op_model.specs.Settled.{settle}
use Rattle.op_model.specs.Steps.{new_state, take_answer, run}
use Rattle.op_model.specs.Steps.Step.{Edits, Undoes, Takes, Settles}
use Rattle.op_model.proofs.rows.Worked.{stamp, piece, edit, undo, counts, v0, rules, open_all}

abbrev a_in : Operation
a_in = edit 2 1 v0 (piece 0 0 (97 ∷ []) ∷ [])

abbrev b_in : Operation
b_in = edit 3 1 ((0, 1) ∷ (1, 2) ∷ []) (piece 1 1 (98 ∷ []) ∷ [])

wrong_order : run rules 2 (Takes b_in ∷ Takes a_in ∷ []) (new_state []) ≡ record { history = base [] ∷ a_in ∷ b_in ∷ []; waiting = []; refused = [] }
unfolding open_all
wrong_order = refl

wrong_order_text : text (base [] ∷ a_in ∷ b_in ∷ []) ≡ 97 ∷ 98 ∷ []
unfolding open_all
wrong_order_text = refl

repeats_change_nothing : run rules 2 (Takes b_in ∷ Takes b_in ∷ Takes a_in ∷ Takes b_in ∷ []) (new_state []) ≡ record { history = base [] ∷ a_in ∷ b_in ∷ []; waiting = []; refused = [] }
unfolding open_all
repeats_change_nothing = refl

-- what waits for a replica's own edit is applied by settling
abbrev q_waits : Operation
q_waits = edit 3 2 ((0, 1) ∷ (1, 2) ∷ []) (piece 0 0 (113 ∷ []) ∷ [])

abbrev c_made : Operation
c_made = edit 2 1 v0 (piece 2 2 (99 ∷ []) ∷ [])

edit_does_not_settle : run rules 1 (Takes q_waits ∷ Edits (piece 2 2 (99 ∷ []) ∷ []) ∷ []) (new_state (97 ∷ 98 ∷ []))
    ≡ record { history = base (97 ∷ 98 ∷ []) ∷ c_made ∷ []; waiting = q_waits ∷ []; refused = [] }
unfolding open_all
edit_does_not_settle = refl

settling_after_an_edit : run rules 1 (Takes q_waits ∷ Edits (piece 2 2 (99 ∷ []) ∷ []) ∷ Settles ∷ []) (new_state (97 ∷ 98 ∷ []))
    ≡ record { history = base (97 ∷ 98 ∷ []) ∷ c_made ∷ q_waits ∷ []; waiting = []; refused = [] }
unfolding open_all
settling_after_an_edit = refl

settling_after_an_edit_text : text (base (97 ∷ 98 ∷ []) ∷ c_made ∷ q_waits ∷ []) ≡ 113 ∷ 97 ∷ 98 ∷ 99 ∷ []
unfolding open_all
settling_after_an_edit_text = refl

-- an operation that is bad shows it once its causes are there
abbrev past_waits : Operation
past_waits = edit 3 2 ((0, 1) ∷ (3, 2) ∷ []) (piece 9 9 (113 ∷ []) ∷ [])

bad_one_waits : take_answer rules (new_state (97 ∷ 98 ∷ [])) past_waits ≡ Waits 3 2
unfolding open_all
bad_one_waits = refl

refused_while_settling : run rules 1 (Takes past_waits ∷ Takes (edit 2 3 v0 []) ∷ []) (new_state (97 ∷ 98 ∷ []))
    ≡ record { history = base (97 ∷ 98 ∷ []) ∷ edit 2 3 v0 [] ∷ []; waiting = []; refused = (stamp 3 2, PastEnd 0 2) ∷ [] }
unfolding open_all
refused_while_settling = refl

-- two of one author wait for one operation: the first by stamps is applied, the second is forked from it
abbrev q_of_nine : Operation
q_of_nine = edit 3 9 ((0, 1) ∷ (1, 2) ∷ []) (piece 0 0 (113 ∷ []) ∷ [])

forked_while_settling : run rules 2 (Takes q_of_nine ∷ Takes (edit 4 9 ((0, 1) ∷ (1, 2) ∷ []) []) ∷ Takes (edit 2 1 v0 []) ∷ []) (new_state (97 ∷ 98 ∷ []))
    ≡ record { history = base (97 ∷ 98 ∷ []) ∷ edit 2 1 v0 [] ∷ q_of_nine ∷ []; waiting = []; refused = (stamp 4 9, Forked 3) ∷ [] }
unfolding open_all
forked_while_settling = refl

-- 5.9 names 3.2, which will never be: it waits through the first pass, which applies 7.2 after its turn, and is refused
-- in the second
second_pass_refuses : settle rules (base (97 ∷ 98 ∷ []) ∷ edit 2 1 v0 [] ∷ []) (edit 5 9 ((0, 1) ∷ (2, 3) ∷ []) [] ∷ edit 7 2 ((0, 1) ∷ (1, 2) ∷ []) [] ∷ [])
    ≡ record { history = base (97 ∷ 98 ∷ []) ∷ edit 2 1 v0 [] ∷ edit 7 2 ((0, 1) ∷ (1, 2) ∷ []) [] ∷ []; waiting = []; refused = (stamp 5 9, OpenVersion 2) ∷ [] }
unfolding open_all
second_pass_refuses = refl

-- the whole run of an edit, its undo and its redo
abbrev x_made : Operation
x_made = edit 2 1 v0 (piece 1 1 (88 ∷ []) ∷ [])

undo_and_redo : run rules 1 (Edits (piece 1 1 (88 ∷ []) ∷ []) ∷ Undoes (stamp 2 1 ∷ []) ∷ Undoes (stamp 2 1 ∷ []) ∷ Undoes (stamp 9 9 ∷ []) ∷ []) (new_state (97 ∷ 98 ∷ []))
    ≡ record { history = base (97 ∷ 98 ∷ []) ∷ x_made ∷ undo 3 1 ((0, 1) ∷ (1, 2) ∷ []) (counts 2 1 1 ∷ []) ∷ undo 4 1 ((0, 1) ∷ (1, 3) ∷ []) (counts 2 1 2 ∷ []) ∷ []; waiting = []; refused = [] }
unfolding open_all
undo_and_redo = refl
