-- What the lines of a session report that concern folds, and what they do. Each first takes the map of replica r to
-- the replica's text, that of h. A replica that is not there reports nothing, and no session has a line of one.
use Rattle.std.specs.Prelude.{ℕ, List, Option, option_and_then, option_map}
use Rattle.op_model.specs.Histories.{History}
use Rattle.fold_map.specs.Calls.{fold_fault}
use Rattle.fold_map.specs.Folds.{FoldState, shown}
use Rattle.session_more.specs.declared.report.MoreReport.{MoreReport}
use Rattle.session_more.specs.declared.report.MoreReport.TheVariants as report
use Rattle.session_folds.specs.Answers.{after_fold, after_unfold, display_answer, fold_answer, unfold_answer, unfold_outcome}
use Rattle.session_folds.specs.State.{ReplicaFolds, folds_of, synced, with_folds, with_map}

-- all folds after g was done to the map of replica r
abbrev pub after_call : ℕ → History → (FoldState → FoldState) → List ReplicaFolds → List ReplicaFolds
after_call r h g fs = with_folds r (λ f. with_map (g (synced h f)) f) fs

-- ---- s..e is folded

abbrev pub fold_report : ℕ → ℕ → ℕ → History → List ReplicaFolds → Option MoreReport
fold_report r s e h fs =
    option_map (report.Fold r) (option_and_then (λ f. fold_answer (fold_fault h s e)) (folds_of r fs))

abbrev pub after_fold_line : ℕ → ℕ → ℕ → History → List ReplicaFolds → List ReplicaFolds
after_fold_line r s e h fs = after_call r h (after_fold s e) fs

-- ---- the folds that share a byte with s..e are taken away

abbrev pub unfold_report : ℕ → ℕ → ℕ → History → List ReplicaFolds → Option MoreReport
unfold_report r s e h fs =
    option_map (report.Unfold r)
    (option_and_then (λ f. unfold_answer (unfold_outcome s e (synced h f))) (folds_of r fs))

abbrev pub after_unfold_line : ℕ → ℕ → ℕ → History → List ReplicaFolds → List ReplicaFolds
after_unfold_line r s e h fs = after_call r h (after_unfold s e) fs

-- ---- what is shown

abbrev pub folded_report : ℕ → History → List ReplicaFolds → Option MoreReport
folded_report r h fs = option_map (λ f. report.Folded r (shown (synced h f))) (folds_of r fs)

-- ---- the shown places of place o

abbrev pub display_report : ℕ → ℕ → History → List ReplicaFolds → Option MoreReport
display_report r o h fs = option_map (λ f. report.Display o r (display_answer (synced h f) o)) (folds_of r fs)

-- the folds after either of these lines
abbrev pub after_sync : ℕ → History → List ReplicaFolds → List ReplicaFolds
after_sync r h fs = after_call r h (λ m. m) fs
