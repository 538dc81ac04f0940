-- Worked rows of the lines.
use Rattle.std.proofs.Common.{◌≡◌, ℕ, List, [], ◌∷◌, refl, Some, None}
use Rattle.lamport_clock.specs.declared.stamp.Lamport.{Lamport}
use Rattle.lamport_clock.specs.Stamps.{later, same_stamp}
use Rattle.op_model.specs.declared.operation.Operation.TheVariants.{Edit}
use Rattle.op_model.specs.Anchors.{is_known, left_anchor, place, right_anchor}
use Rattle.op_model.specs.Cells.{same_cell, seq, seq_where, sibling_first}
use Rattle.op_model.specs.Histories.{History, base}
use Rattle.op_model.specs.Laid.{replay}
use Rattle.op_model.specs.Shown.{deleters_where, full, full_where, shows, shows_where, text, text_where}
use Rattle.session_more.specs.declared.report.MoreReport.TheVariants.{Select, Selected, Share}
use Rattle.session_more.specs.declared.report.SelectAnswer.TheVariants as select_as
use Rattle.session_more.specs.declared.report.SelectedAnswer.TheVariants as selected_as
use Rattle.session_more.specs.declared.report.ShareAnswer.TheVariants as share_as
use Rattle.session_selections.specs.Lines.{after_select, after_share, select_report, selected_report, share_report}
use Rattle.session_selections.specs.State.{SelectionWork, opening_selections}

unfoldable open_all : ℕ
unfolding later same_stamp same_cell sibling_first seq_where seq replay deleters_where shows_where shows text_where text full_where full left_anchor right_anchor place is_known
open_all = 0

abbrev stamp : ℕ → ℕ → Lamport
stamp v r = record { value = v; replica = r }

-- ab, and then aXb
abbrev start : History
start = base (97 ∷ 98 ∷ []) ∷ []

abbrev x_in : History
x_in = base (97 ∷ 98 ∷ []) ∷ Edit (record { stamp = stamp 2 2; version = (0, 1) ∷ []; pieces = record { start = 1; end = 1; text = 88 ∷ [] } ∷ [] }) ∷ []

-- the names c and d
abbrev c : List ℕ
c = 99 ∷ []

abbrev d : List ℕ
d = 100 ∷ []

abbrev opening : SelectionWork
opening = opening_selections (1 ∷ 2 ∷ [])

-- replica 1 selects a caret before b, and both letters; then replica 2 takes that
abbrev selected_once : SelectionWork
selected_once = after_select 1 c ((1, 1) ∷ (0, 2) ∷ []) start opening

abbrev shared_once : SelectionWork
shared_once = after_share 2 c selected_once

told : (select_report 1 c ((1, 1) ∷ (0, 2) ∷ []) start opening ≡ Some (Select c (select_as.Made (stamp 1 1)))) × (share_report 2 c selected_once ≡ Some (Share c 2 share_as.Set))
    × (selected_report 2 1 x_in shared_once ≡ Some (Selected 1 2 (selected_as.Ranges ((2, 2) ∷ (0, 3) ∷ []))))
    × (selected_report 1 1 start shared_once ≡ Some (Selected 1 1 (selected_as.Ranges ((1, 1) ∷ (0, 2) ∷ []))))
    × (selected_report 1 2 start shared_once ≡ Some (Selected 2 1 selected_as.Nothing))
unfolding open_all
told = (refl, refl, refl, refl, refl)

-- ranges that are refused change nothing, whether something is under the name or not
refused : (select_report 1 c ((2, 1) ∷ []) start selected_once ≡ Some (Select c (select_as.Reversed 0))) × (after_select 1 c ((2, 1) ∷ []) start selected_once ≡ selected_once)
    × (share_report 2 d (after_select 1 d ((2, 1) ∷ []) start opening) ≡ Some (Share d 2 share_as.Nothing)) × (after_share 2 d opening ≡ opening)
unfolding open_all
refused = (refl, refl, refl, refl)

-- an older operation comes after a newer one, and the newer one comes again
abbrev selected_twice : SelectionWork
selected_twice = after_select 1 d [] start selected_once

abbrev shared_twice : SelectionWork
shared_twice = after_share 2 d selected_twice

older : (share_report 2 c shared_twice ≡ Some (Share c 2 (share_as.Old (stamp 2 1)))) × (after_share 2 c shared_twice ≡ shared_twice) × (share_report 2 d shared_twice ≡ Some (Share d 2 share_as.Repeat))
    × (selected_report 2 1 start shared_twice ≡ Some (Selected 1 2 (selected_as.Ranges [])))
unfolding open_all
older = (refl, refl, refl, refl)

-- a later operation of a name replaces the earlier
replaced : share_report 2 c (after_share 2 c (after_select 1 c [] start selected_once)) ≡ Some (Share c 2 share_as.Repeat)
unfolding open_all
replaced = refl

-- no replica has these ids
absent : (select_report 3 c [] start opening ≡ None) × (after_select 3 c [] start opening ≡ opening) × (share_report 3 c opening ≡ None) × (selected_report 3 1 start opening ≡ None)
    × (selected_report 1 0 start opening ≡ Some (Selected 0 1 selected_as.Nothing)) × (selected_report 1 1024 start opening ≡ Some (Selected 1024 1 selected_as.Nothing))
unfolding open_all
absent = (refl, refl, refl, refl, refl, refl)
