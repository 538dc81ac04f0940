-- What a report says of the calls of sets. A failed allocation is not reported.
use Rattle.std.specs.Prelude.{ℕ, List, Option, None, Some, Result, Ok, Err}
use Rattle.std.specs.List.{filter_map}
use Rattle.op_model.specs.Histories.{History}
use Rattle.selections.specs.Setting.{own_stamp, selection_of, set_fault}
use Rattle.selections.specs.Sets.{SelectionState, keep}
use Rattle.selections.specs.Taking.{after_answer, answer}
use Rattle.selections.specs.declared.faults.PlacesFault.{PlacesFault}
use Rattle.selections.specs.declared.faults.PlacesFault.TheVariants as places_fault
use Rattle.selections.specs.declared.faults.SelFault.{SelFault}
use Rattle.selections.specs.declared.faults.SelFault.TheVariants as take_fault
use Rattle.selections.specs.declared.faults.SelTook.{SelTook}
use Rattle.selections.specs.declared.faults.SelTook.TheVariants as took
use Rattle.selections.specs.declared.faults.SetFault.{SetFault}
use Rattle.selections.specs.declared.faults.SetFault.TheVariants as set_fault_of
use Rattle.selections.specs.declared.selection.SelectionOp.{SelectionOp}
use Rattle.session_lines.specs.Session.{unless}
use Rattle.session_more.specs.declared.report.SelectAnswer.{SelectAnswer}
use Rattle.session_more.specs.declared.report.SelectAnswer.TheVariants as select_as
use Rattle.session_more.specs.declared.report.SelectedAnswer.{SelectedAnswer}
use Rattle.session_more.specs.declared.report.SelectedAnswer.TheVariants as selected_as
use Rattle.session_more.specs.declared.report.ShareAnswer.{ShareAnswer}
use Rattle.session_more.specs.declared.report.ShareAnswer.TheVariants as share_as

-- ---- ranges that a replica selects

-- the operation that sets make of ranges, or the fault of the ranges
abbrev pub set_outcome : SelectionState → History → List (ℕ × ℕ) → Result SelectionOp SetFault
set_outcome s h rs = unless (record { stamp = own_stamp s; ranges = filter_map (selection_of h) rs }) (set_fault s h rs)

-- the sets after it
abbrev pub after_set : Result SelectionOp SetFault → SelectionState → SelectionState
after_set (Ok op) s = keep op s
after_set (Err e) s = s

abbrev pub set_refusal : SetFault → Option SelectAnswer
set_refusal (set_fault_of.Reversed i) = Some (select_as.Reversed i)
set_refusal (set_fault_of.PastEnd i len) = Some (select_as.PastEnd i len)
set_refusal (set_fault_of.InsideChar i) = Some (select_as.InsideChar i)
set_refusal (set_fault_of.TooMany n) = Some (select_as.TooMany n)
set_refusal set_fault_of.ClockEnd = Some select_as.ClockEnd
set_refusal set_fault_of.OutOfMemory = None

abbrev pub select_answer : Result SelectionOp SetFault → Option SelectAnswer
select_answer (Ok op) = Some (select_as.Made op.stamp)
select_answer (Err e) = set_refusal e

-- ---- an operation that a replica takes, or nothing

abbrev pub take_answer : Result SelTook SelFault → Option ShareAnswer
take_answer (Ok took.Repeat) = Some share_as.Repeat
take_answer (Ok (took.Old kept)) = Some (share_as.Old kept)
take_answer (Ok took.Set) = Some share_as.Set
take_answer (Err take_fault.BadStamp) = Some share_as.BadStamp
take_answer (Err (take_fault.TooMany n)) = Some (share_as.TooMany n)
take_answer (Err (take_fault.Conflict t)) = Some (share_as.Conflict t)
take_answer (Err take_fault.OutOfMemory) = None

abbrev pub share_answer : Option SelectionOp → SelectionState → Option ShareAnswer
share_answer None s = Some share_as.Nothing
share_answer (Some op) s = take_answer (answer s op)

-- the sets after they answered to the operation
abbrev pub after_reply : Result SelTook SelFault → SelectionOp → SelectionState → SelectionState
after_reply (Ok t) op s = after_answer t op s
after_reply (Err e) op s = s

abbrev pub after_take : Option SelectionOp → SelectionState → SelectionState
after_take None s = s
after_take (Some op) s = after_reply (answer s op) op s

-- ---- where the selections of an author are

abbrev pub selected_answer : Result (Option (List (ℕ × ℕ))) PlacesFault → Option SelectedAnswer
selected_answer (Ok None) = Some selected_as.Nothing
selected_answer (Ok (Some ps)) = Some (selected_as.Ranges ps)
selected_answer (Err (places_fault.Unknown i)) = Some (selected_as.Unknown i)
selected_answer (Err places_fault.OutOfMemory) = None
