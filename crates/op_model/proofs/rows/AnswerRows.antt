-- Answers to operations, and the faults of local edits and undos, in worked histories.
use Rattle.std.proofs.Common.{◌≡◌, [], ◌∷◌, refl, Some, None}
use Rattle.op_model.specs.declared.operation.Operation.{Operation}
use Rattle.op_model.specs.declared.faults.Unit.TheVariants.{Bytes, Entries}
use Rattle.op_model.specs.declared.faults.EditFault.TheVariants as edit_faults
use Rattle.op_model.specs.declared.faults.UndoFault.TheVariants as undo_faults
use Rattle.op_model.specs.declared.faults.OpFault.TheVariants.{BadStamp, NoBase, Reversed, Overlap, Conflict, Forked, OpenVersion, PastEnd, InsideChar, NoSuchEdit, Full}
use Rattle.op_model.specs.declared.limits.Limits.{Limits as LimitsType}
use Rattle.op_model.specs.declared.endings.Endings.TheVariants.{AsIs}
use Rattle.op_model.specs.Histories.{History, base}
use Rattle.op_model.specs.Shown.{text}
use Rattle.op_model.specs.Made.{local_edit, local_edit_fault, local_undo_fault}
use Rattle.op_model.specs.Answers.{answer}
use Rattle.op_model.specs.Answers.Answer.{Good, Repeat, Waits, Refused}
use Rattle.op_model.specs.Lawful.{unseen_replica}
use Rattle.op_model.specs.Steps.{new_state, take_answer}
use Rattle.op_model.specs.Limited.{excess}
use Rattle.op_model.proofs.rows.Worked.{stamp, piece, edit, undo, counts, v0, ample, open_all}

abbrev ab : History
ab = base (97 ∷ 98 ∷ []) ∷ []

abbrev p_in : History
p_in = base (97 ∷ 98 ∷ []) ∷ edit 2 1 v0 (piece 0 0 (80 ∷ []) ∷ []) ∷ []

last_value : answer ab [] (edit 4294967295 1 v0 (piece 0 0 (120 ∷ []) ∷ [])) ≡ Refused BadStamp
unfolding open_all
last_value = refl

good : answer ab [] (edit 2 1 v0 (piece 0 0 (80 ∷ []) ∷ [])) ≡ Good
unfolding open_all
good = refl

author_unseen : answer p_in [] (edit 3 1 v0 (piece 0 0 (90 ∷ []) ∷ [])) ≡ Refused (Forked 2)
unfolding open_all
author_unseen = refl

past_what_it_sees : answer p_in [] (edit 2 3 v0 (piece 9 9 (113 ∷ []) ∷ [])) ≡ Refused (PastEnd 0 2)
unfolding open_all
past_what_it_sees = refl

other_of_one_stamp : answer p_in [] (edit 2 1 v0 (piece 0 0 (87 ∷ []) ∷ [])) ≡ Refused (Conflict (stamp 2 1))
unfolding open_all
other_of_one_stamp = refl

base_unseen : answer p_in [] (edit 2 4 [] (piece 0 0 (113 ∷ []) ∷ [])) ≡ Refused NoBase
unfolding open_all
base_unseen = refl

named_but_absent : answer p_in [] (edit 9 4 ((0, 1) ∷ (1, 1) ∷ []) []) ≡ Refused (OpenVersion 1)
unfolding open_all
named_but_absent = refl

undo_of_no_edit : answer p_in [] (undo 9 4 v0 (counts 7 1 1 ∷ [])) ≡ Refused (NoSuchEdit (stamp 7 1))
unfolding open_all
undo_of_no_edit = refl

start_past_end : answer p_in [] (edit 9 4 v0 (piece 2 1 [] ∷ [])) ≡ Refused (Reversed 0)
unfolding open_all
start_past_end = refl

start_before_the_last_end : answer p_in [] (edit 9 4 v0 (piece 0 2 [] ∷ piece 1 1 (120 ∷ []) ∷ [])) ≡ Refused (Overlap 1)
unfolding open_all
start_before_the_last_end = refl

refused_change_nothing : text p_in ≡ 80 ∷ 97 ∷ 98 ∷ []
unfolding open_all
refused_change_nothing = refl

-- the second waits for the first, and is a repeat while it waits and once it is applied
abbrev a_in : Operation
a_in = edit 2 1 v0 (piece 0 0 (97 ∷ []) ∷ [])

abbrev b_in : Operation
b_in = edit 3 1 ((0, 1) ∷ (1, 2) ∷ []) (piece 1 1 (98 ∷ []) ∷ [])

waits_for_its_cause : answer (base [] ∷ []) [] b_in ≡ Waits 1 2
unfolding open_all
waits_for_its_cause = refl

repeat_while_it_waits : answer (base [] ∷ []) (b_in ∷ []) b_in ≡ Repeat
unfolding open_all
repeat_while_it_waits = refl

repeat_once_applied : answer (base [] ∷ a_in ∷ b_in ∷ []) [] b_in ≡ Repeat
unfolding open_all
repeat_once_applied = refl

-- another operation of its stamp is applied, and an equal one waits
repeat_before_conflict : answer p_in (edit 2 1 v0 (piece 0 0 (87 ∷ []) ∷ []) ∷ []) (edit 2 1 v0 (piece 0 0 (87 ∷ []) ∷ [])) ≡ Repeat
unfolding open_all
repeat_before_conflict = refl

zero_entries_name_nothing : answer p_in [] (edit 9 4 ((0, 1) ∷ (3, 0) ∷ []) []) ≡ Good
unfolding open_all
zero_entries_name_nothing = refl

-- two operations of one author, neither of which has seen the other
forked_first : (answer (base (97 ∷ 98 ∷ []) ∷ edit 2 9 v0 (piece 0 0 (120 ∷ []) ∷ []) ∷ []) [] (edit 3 9 v0 (piece 0 0 (121 ∷ []) ∷ [])) ≡ Refused (Forked 2))
    × (text (base (97 ∷ 98 ∷ []) ∷ edit 2 9 v0 (piece 0 0 (120 ∷ []) ∷ []) ∷ []) ≡ 120 ∷ 97 ∷ 98 ∷ [])
unfolding open_all
forked_first = (refl, refl)

forked_second : (answer (base (97 ∷ 98 ∷ []) ∷ edit 3 9 v0 (piece 0 0 (121 ∷ []) ∷ []) ∷ []) [] (edit 2 9 v0 (piece 0 0 (120 ∷ []) ∷ [])) ≡ Refused (Forked 3))
    × (text (base (97 ∷ 98 ∷ []) ∷ edit 3 9 v0 (piece 0 0 (121 ∷ []) ∷ []) ∷ []) ≡ 121 ∷ 97 ∷ 98 ∷ [])
unfolding open_all
forked_second = (refl, refl)

-- it names an operation without what that one has seen
cause_of_a_cause_unseen : answer (base (97 ∷ 98 ∷ []) ∷ edit 2 1 v0 (piece 0 0 (80 ∷ []) ∷ []) ∷ edit 3 2 ((0, 1) ∷ (1, 2) ∷ []) [] ∷ []) [] (edit 4 9 ((0, 1) ∷ (2, 3) ∷ []) [])
    ≡ Refused (OpenVersion 2)
unfolding open_all
cause_of_a_cause_unseen = refl

abbrev q_waits : Operation
q_waits = edit 3 9 ((0, 1) ∷ (1, 2) ∷ []) (piece 0 0 (113 ∷ []) ∷ [])

conflict_with_one_that_waits : (answer ab [] q_waits ≡ Waits 1 2) × (answer ab (q_waits ∷ []) (edit 3 9 ((0, 1) ∷ (1, 2) ∷ []) (piece 0 0 (114 ∷ []) ∷ [])) ≡ Refused (Conflict (stamp 3 9)))
unfolding open_all
conflict_with_one_that_waits = (refl, refl)

-- the base is one character of two bytes
inside_a_character : answer (base (195 ∷ 169 ∷ []) ∷ []) [] (edit 2 9 v0 (piece 1 1 (120 ∷ []) ∷ [])) ≡ Refused (InsideChar 0)
unfolding open_all
inside_a_character = refl

ids_out_of_range : (answer ab [] (edit 2 0 v0 []) ≡ Refused BadStamp) × (answer ab [] (edit 2 1024 v0 []) ≡ Refused BadStamp)
    × (answer ab [] (edit 2 9 ((0, 1) ∷ (1024, 1) ∷ []) []) ≡ Refused BadStamp)
unfolding open_all
ids_out_of_range = (refl, refl, refl)

edit_faults_of_pieces : (local_edit_fault ample ab (piece 2 1 [] ∷ []) ≡ Some (edit_faults.Reversed 0))
    × (local_edit_fault ample ab (piece 0 2 [] ∷ piece 1 1 (120 ∷ []) ∷ []) ≡ Some (edit_faults.Overlap 1))
    × (local_edit_fault ample ab (piece 0 9 [] ∷ []) ≡ Some (edit_faults.PastEnd 0 2))
unfolding open_all
edit_faults_of_pieces = (refl, refl, refl)

abbrev x_in : History
x_in = base (97 ∷ 98 ∷ []) ∷ edit 2 1 v0 (piece 1 1 (88 ∷ []) ∷ []) ∷ []

undo_faults_of_stamps : (local_undo_fault ample ab (stamp 2 1 ∷ []) ≡ Some (undo_faults.NoSuchEdit (stamp 2 1)))
    × (local_undo_fault ample x_in (stamp 2 1 ∷ stamp 2 1 ∷ []) ≡ Some (undo_faults.Twice (stamp 2 1)))
unfolding open_all
undo_faults_of_stamps = (refl, refl)

abbrev count_at_its_end : History
count_at_its_end = base (97 ∷ 98 ∷ []) ∷ edit 2 1 v0 (piece 1 1 (88 ∷ []) ∷ []) ∷ undo 3 2 ((0, 1) ∷ (1, 2) ∷ []) (counts 2 1 4294967295 ∷ []) ∷ []

last_count : (answer x_in [] (undo 3 2 ((0, 1) ∷ (1, 2) ∷ []) (counts 2 1 4294967295 ∷ [])) ≡ Good)
    × (local_undo_fault ample count_at_its_end (stamp 2 1 ∷ []) ≡ Some (undo_faults.CountEnd (stamp 2 1))) × (text count_at_its_end ≡ 97 ∷ 98 ∷ [])
unfolding open_all
last_count = (refl, refl, refl)

abbrev clock_at_its_end : History
clock_at_its_end = base (97 ∷ 98 ∷ []) ∷ edit 4294967294 2 v0 (piece 0 0 (122 ∷ []) ∷ []) ∷ []

last_stamp : (answer ab [] (edit 4294967294 2 v0 (piece 0 0 (122 ∷ []) ∷ [])) ≡ Good) × (local_edit_fault ample clock_at_its_end [] ≡ Some edit_faults.ClockEnd)
    × (local_undo_fault ample clock_at_its_end [] ≡ Some undo_faults.ClockEnd) × (text clock_at_its_end ≡ 122 ∷ 97 ∷ 98 ∷ [])
unfolding open_all
last_stamp = (refl, refl, refl, refl)

unseen_since : unseen_replica ab ((0, 1) ∷ (1, 3) ∷ []) ≡ Some 1
unfolding open_all
unseen_since = refl

-- limits of five bytes and two entries
abbrev small : LimitsType
small = record { bytes = 5; entries = 2 }

abbrev abc : History
abc = base (97 ∷ 98 ∷ 99 ∷ []) ∷ []

limits_of_an_edit : (local_edit_fault small abc (piece 0 0 (120 ∷ 121 ∷ 122 ∷ []) ∷ []) ≡ Some (edit_faults.Full Bytes 3 3)) × (local_edit_fault small abc (piece 0 0 (120 ∷ []) ∷ []) ≡ None)
    × (local_edit_fault small (base (97 ∷ 98 ∷ 99 ∷ []) ∷ local_edit abc 1 (piece 0 0 (120 ∷ []) ∷ []) ∷ []) (piece 0 1 [] ∷ []) ≡ Some (edit_faults.Full Entries 2 2))
unfolding open_all
limits_of_an_edit = (refl, refl, refl)

limits_of_a_base : (excess small [] 6 0 ≡ Some (record { unit = Bytes; held = 0; adds = 6 })) × (excess small [] 3 0 ≡ None)
unfolding open_all
limits_of_a_base = (refl, refl)

limits_of_a_taken_edit : take_answer (record { limits = small; endings = AsIs }) (new_state (97 ∷ 98 ∷ 99 ∷ [])) (edit 2 1 v0 (piece 0 0 (120 ∷ 121 ∷ 122 ∷ []) ∷ [])) ≡ Refused (Full Bytes 3 3)
unfolding open_all
limits_of_a_taken_edit = refl
