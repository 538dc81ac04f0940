-- What a line leaves that concerns folds.
use Rattle.std.proofs.Common.{◌≡◌, ◌⊎◌, inl, inr, ℕ, List, Option, None, Some, refl, sym, ap, subst, ◌∙◌}
use Rattle.std.specs.Option.{option_map, option_map_or}
use Rattle.op_model.specs.Histories.{History}
use Rattle.fold_map.specs.Calls.{fold_fault}
use Rattle.fold_map.specs.Folds.{FoldState}
use Rattle.fold_map.specs.declared.faults.FoldFault.{FoldFault}
use Rattle.text_buffer.specs.Buffer.{BufferState}
use Rattle.session_folds.specs.Answers.{after_fold, after_unfold, fold_unless, unfold_unless}
use Rattle.session_folds.specs.Lines.{after_call, after_sync}
use Rattle.session_folds.specs.State.{ReplicaFolds}
use Rattle.session_work.specs.Behind.{AreBehind}
use Rattle.session_work.specs.MoreWork.{MoreState, with_folds_at}
use Rattle.session_work.specs.Work.{buffer_of, history_at}
use Rattle.session_work.proofs.Behind.{behind_call}

-- folds after it
pub folds_changed : (s : MoreState) (fs gs : List ReplicaFolds) → fs ≡ gs → ◌≡◌ {A = MoreState} (record s { folds = fs }) (record s { folds = gs })
folds_changed s fs gs e = let with_folds : List ReplicaFolds → MoreState = λ x. record s { folds = x } in ap with_folds e

-- the replica is there
pub folded_at : (s : MoreState) (r : ℕ) (g : History → List ReplicaFolds → List ReplicaFolds) (h : History) (fs : List ReplicaFolds) → Some h ≡ history_at r s.plain → fs ≡ g h s.folds
    → ◌≡◌ {A = MoreState} (record s { folds = fs }) (with_folds_at r g s)
folded_at s r g h fs e is =
    folds_changed s fs (option_map_or (λ x. g x s.folds) (history_at r s.plain) s.folds) (is ∙ ap (λ (o : Option History). option_map_or (λ x. g x s.folds) o s.folds) e)

-- it is not there
pub folded_nowhere : (s : MoreState) (r : ℕ) (g : History → List ReplicaFolds → List ReplicaFolds) → None ≡ history_at r s.plain → ◌≡◌ {A = MoreState} s (with_folds_at r g s)
folded_nowhere s r g e =
    folds_changed s s.folds (option_map_or (λ x. g x s.folds) (history_at r s.plain) s.folds) (ap (λ (o : Option History). option_map_or (λ x. g x s.folds) o s.folds) e)

-- a call that failed has left the folds as they were, or has taken the replica's map to its text
pub behind_failed : (r : ℕ) (h : History) (bs : List BufferState) (fs gs : List ReplicaFolds) → Some h ≡ option_map (λ (b : BufferState). b.history) (buffer_of r bs) → AreBehind bs fs
    → (gs ≡ fs) ⊎ (gs ≡ after_sync r h fs) → AreBehind bs gs
behind_failed r h bs fs gs e a (inl is) = subst (AreBehind bs) (sym is) a
behind_failed r h bs fs gs e a (inr is) = subst (AreBehind bs) (sym is) (behind_call r h (λ (m : FoldState). m) (λ m. refl) bs fs e a)

-- one that has not failed has changed the map
pub behind_worked : (r : ℕ) (h : History) (g : FoldState → FoldState) → ((m : FoldState) → (g m).history ≡ m.history) → (bs : List BufferState) (fs gs : List ReplicaFolds)
    → Some h ≡ option_map (λ (b : BufferState). b.history) (buffer_of r bs) → AreBehind bs fs → gs ≡ after_call r h g fs → AreBehind bs gs
behind_worked r h g same bs fs gs e a is = subst (AreBehind bs) (sym is) (behind_call r h g same bs fs e a)

-- ---- the map stays over its text

fold_unless_stays : (o : Option FoldFault) (s e : ℕ) (m : FoldState) → (fold_unless o s e m).history ≡ m.history
fold_unless_stays None s e m = refl
fold_unless_stays (Some f) s e m = refl

pub fold_stays : (s e : ℕ) (m : FoldState) → (after_fold s e m).history ≡ m.history
fold_stays s e m = fold_unless_stays (fold_fault m.history s e) s e m

unfold_unless_stays : (o : Option FoldFault) (s e : ℕ) (m : FoldState) → (unfold_unless o s e m).history ≡ m.history
unfold_unless_stays None s e m = refl
unfold_unless_stays (Some f) s e m = refl

pub unfold_stays : (s e : ℕ) (m : FoldState) → (after_unfold s e m).history ≡ m.history
unfold_stays s e m = unfold_unless_stays (fold_fault m.history s e) s e m
