-- Worked rows of the lines.
use Rattle.std.proofs.Common.{◌≡◌, ℕ, List, [], ◌∷◌, refl, Some, None}
use Rattle.lamport_clock.specs.declared.stamp.Lamport.{Lamport}
use Rattle.lamport_clock.specs.Stamps.{later, same_stamp}
use Rattle.op_model.specs.declared.operation.Operation.{Operation}
use Rattle.op_model.specs.declared.operation.Operation.TheVariants.{Edit}
use Rattle.op_model.specs.Anchors.{is_known, left_anchor, place, right_anchor}
use Rattle.op_model.specs.Cells.{same_cell, seq, seq_where, sibling_first}
use Rattle.op_model.specs.Histories.{History, base}
use Rattle.op_model.specs.Laid.{replay}
use Rattle.op_model.specs.Shown.{deleters_where, full, full_where, shows, shows_where, text, text_where}
use Rattle.session_more.specs.declared.report.DisplayAnswer.TheVariants.{Nothing, Places}
use Rattle.session_more.specs.declared.report.FoldAnswer.TheVariants as fold_as
use Rattle.session_more.specs.declared.report.FoldRefusal.TheVariants as refused_as
use Rattle.session_more.specs.declared.report.MoreReport.TheVariants.{Display, Fold, Folded, Unfold}
use Rattle.session_more.specs.declared.report.UnfoldAnswer.TheVariants as unfold_as
use Rattle.session_folds.specs.Lines.{after_fold_line, after_sync, after_unfold_line, display_report, fold_report, folded_report, unfold_report}
use Rattle.session_folds.specs.State.{ReplicaFolds, opening_folds}

unfoldable open_all : ℕ
unfolding later same_stamp same_cell sibling_first seq_where seq replay deleters_where shows_where shows text_where text full_where full left_anchor right_anchor place is_known
open_all = 0

abbrev stamp : ℕ → ℕ → Lamport
stamp v r = record { value = v; replica = r }

-- abcdef; then abXcdef; then aYbXcdef
abbrev start : History
start = base (97 ∷ 98 ∷ 99 ∷ 100 ∷ 101 ∷ 102 ∷ []) ∷ []

abbrev insertion : ℕ → ℕ → ℕ → ℕ → Operation
insertion v seen at letter = Edit (record { stamp = stamp v 1; version = (0, 1) ∷ (1, seen) ∷ []; pieces = record { start = at; end = at; text = letter ∷ [] } ∷ [] })

abbrev edited : History
edited =
    base (97 ∷ 98 ∷ 99 ∷ 100 ∷ 101 ∷ 102 ∷ []) ∷ Edit (record { stamp = stamp 2 1; version = (0, 1) ∷ []; pieces = record { start = 2; end = 2; text = 88 ∷ [] } ∷ [] })
    ∷ insertion 3 2 1 89 ∷ []

-- 1..3 and 2..4 are folded, and a place inside both is asked for
abbrev folded_once : List ReplicaFolds
folded_once = after_fold_line 1 1 3 start (opening_folds (1 ∷ []))

abbrev folded_twice : List ReplicaFolds
folded_twice = after_fold_line 1 2 4 start folded_once

asked : (fold_report 1 1 3 start (opening_folds (1 ∷ [])) ≡ Some (Fold 1 fold_as.Set)) × (fold_report 1 2 4 start folded_once ≡ Some (Fold 1 fold_as.Set)) × (display_report 1 2 start folded_twice ≡ Some (Display 2 1 (Places 1 4)))
    × (display_report 1 7 start folded_twice ≡ Some (Display 7 1 Nothing))
unfolding open_all
asked = (refl, refl, refl, refl)

-- both insertions are shown or hidden by the folds that hold them; one of the folds is taken away
shown_then : (folded_report 1 edited folded_twice ≡ Some (Folded 1 (97 ∷ 89 ∷ 226 ∷ 139 ∷ 175 ∷ 101 ∷ 102 ∷ []))) × (unfold_report 1 2 3 edited folded_twice ≡ Some (Unfold 1 (unfold_as.Count 1)))
    × (folded_report 1 edited (after_unfold_line 1 2 3 edited folded_twice) ≡ Some (Folded 1 (97 ∷ 89 ∷ 98 ∷ 88 ∷ 226 ∷ 139 ∷ 175 ∷ 101 ∷ 102 ∷ [])))
unfolding open_all
shown_then = (refl, refl, refl)

-- an empty range is refused, and the map has gone on to the text all the same
refused : (fold_report 1 1 1 start (opening_folds (1 ∷ [])) ≡ Some (Fold 1 (fold_as.Refused refused_as.EmptyRange))) × (after_fold_line 1 1 1 start (opening_folds (1 ∷ [])) ≡ after_sync 1 start (opening_folds (1 ∷ [])))
    × (unfold_report 1 3 2 start folded_twice ≡ Some (Unfold 1 (unfold_as.Refused (refused_as.Reversed 0)))) × (fold_report 2 1 3 start (opening_folds (1 ∷ [])) ≡ None)
unfolding open_all
refused = (refl, refl, refl, refl)
