-- What a report says of the calls of fold maps. A failed allocation is not reported.
use Rattle.std.specs.Prelude.{ℕ, ◌++◌, length, Option, None, Some, option_map, option_to_list, Result, Ok, Err}
use Rattle.std.specs.List.{filter}
use Rattle.tree_cursor.specs.declared.traits.Bias.TheVariants.{Left, Right}
use Rattle.op_model.specs.Anchors.{left_anchor, right_anchor}
use Rattle.op_model.specs.Histories.{History}
use Rattle.op_model.specs.declared.anchor.Anchor.{Anchor}
use Rattle.fold_map.specs.Calls.{fold_fault, shares, unfolded}
use Rattle.fold_map.specs.Folds.{FoldState, to_shown}
use Rattle.fold_map.specs.declared.faults.FoldFault.{FoldFault}
use Rattle.fold_map.specs.declared.faults.FoldFault.TheVariants as fault
use Rattle.fold_map.specs.declared.fold.Fold.{Fold}
use Rattle.session_lines.specs.Session.{unless}
use Rattle.session_more.specs.declared.report.DisplayAnswer.{DisplayAnswer}
use Rattle.session_more.specs.declared.report.DisplayAnswer.TheVariants as displayed
use Rattle.session_more.specs.declared.report.FoldAnswer.{FoldAnswer}
use Rattle.session_more.specs.declared.report.FoldAnswer.TheVariants as folded
use Rattle.session_more.specs.declared.report.FoldRefusal.{FoldRefusal}
use Rattle.session_more.specs.declared.report.FoldRefusal.TheVariants as refused
use Rattle.session_more.specs.declared.report.UnfoldAnswer.{UnfoldAnswer}
use Rattle.session_more.specs.declared.report.UnfoldAnswer.TheVariants as unfolded_as

abbrev pub refusal : FoldFault → Option FoldRefusal
refusal (fault.Reversed i) = Some (refused.Reversed i)
refusal (fault.PastEnd i len) = Some (refused.PastEnd i len)
refusal (fault.InsideChar i) = Some (refused.InsideChar i)
refusal fault.EmptyRange = Some refused.EmptyRange
refusal fault.OutOfMemory = None

-- ---- a range is folded

abbrev pub fold_answer : Option FoldFault → Option FoldAnswer
fold_answer None = Some folded.Set
fold_answer (Some e) = option_map folded.Refused (refusal e)

-- a fold with both anchors
abbrev pub both : Option Anchor → Option Anchor → Option Fold
both None b = None
both (Some a) None = None
both (Some a) (Some b) = Some (record { start = a; end = b })

-- the fold of s..e
abbrev pub fold_of : History → ℕ → ℕ → Option Fold
fold_of h s e = both (right_anchor h s) (left_anchor h e)

-- the map after it, by the fault of the range
abbrev pub fold_unless : Option FoldFault → ℕ → ℕ → FoldState → FoldState
fold_unless None s e m = record { history = m.history; folds = m.folds ++ option_to_list (fold_of m.history s e) }
fold_unless (Some f) s e m = m

abbrev pub after_fold : ℕ → ℕ → FoldState → FoldState
after_fold s e m = fold_unless (fold_fault m.history s e) s e m

-- ---- a range is unfolded

-- how many folds are taken away, or the fault of the range
abbrev pub unfold_outcome : ℕ → ℕ → FoldState → Result ℕ FoldFault
unfold_outcome s e m = unless (length (filter (shares m.history s e) m.folds)) (fold_fault m.history s e)

abbrev pub unfold_answer : Result ℕ FoldFault → Option UnfoldAnswer
unfold_answer (Ok n) = Some (unfolded_as.Count n)
unfold_answer (Err e) = option_map unfolded_as.Refused (refusal e)

abbrev pub unfold_unless : Option FoldFault → ℕ → ℕ → FoldState → FoldState
unfold_unless None s e m = unfolded s e m
unfold_unless (Some f) s e m = m

abbrev pub after_unfold : ℕ → ℕ → FoldState → FoldState
after_unfold s e m = unfold_unless (fold_fault m.history s e) s e m

-- ---- a place is shown

abbrev pub places : Option ℕ → Option ℕ → DisplayAnswer
places None q = displayed.Nothing
places (Some p) None = displayed.Nothing
places (Some p) (Some q) = displayed.Places p q

-- its shown places to the left and to the right, which are two inside a ⋯
abbrev pub display_answer : FoldState → ℕ → DisplayAnswer
display_answer m o = places (to_shown m o Left) (to_shown m o Right)
