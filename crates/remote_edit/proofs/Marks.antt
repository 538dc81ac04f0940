-- Marks by the entries of a history's undo counts are those by the history.
use Rattle.std.proofs.Common.{◌≡◌, false, cond, not, ◌||◌, List, [], ◌∷◌, refl, inl, inr}
use Rattle.std.specs.List.{filter, list_all}
use Rattle.std.proofs.lemmas.Bool.{cases_Bool}
use Rattle.lamport_clock.specs.declared.stamp.Lamport.{Lamport}
use Rattle.lamport_clock.specs.Versions.{Entries, sees}
use Rattle.op_model.specs.Histories.{History, seen_history}
use Rattle.op_model.specs.Shown.{are_undone, visible_by}
use Rattle.op_model.specs.Facts.{was_visible, edit_marking, with_deletion}
use Rattle.undo_map.specs.Counts.{count_of, count_seen, is_odd}
use Rattle.undo_map.specs.Undos.{undo_entries}
use Rattle.undo_map.proofs.Entries.{undone_kept, undone_seen}
use Rattle.remote_edit.specs.Marks.{was_shown, is_shown, marking}

-- a cell was shown in what a version sees
pub was_told : (h : History) (v : Entries) (u : Lamport) (d : List Lamport) → was_visible (seen_history h v) v u d ≡ was_shown (undo_entries h) v u d
was_told h v u d = rw (undone_seen h v u, all d) refl
  where
    all : (d : List Lamport) → are_undone (seen_history h v) (filter (sees v) d) ≡ list_all (λ t. not (sees v t) || is_odd (count_seen (undo_entries h) t v)) d
    all [] = refl
    all (x ∷ d) = elim (cases_Bool (sees v x)) [
      | inl e ↦ rw (e, undone_seen h v x, all d) refl
      | inr e ↦ rw e (all d)
    ]

-- a cell is shown
pub is_told : (h : History) (u : Lamport) (d : List Lamport) → visible_by h u d ≡ is_shown (undo_entries h) u d
is_told h u d = rw (undone_kept h u, all d) refl
  where
    all : (d : List Lamport) → are_undone h d ≡ list_all (λ t. is_odd (count_of (undo_entries h) t)) d
    all [] = refl
    all (x ∷ d) = rw (undone_kept h x, all d) refl

-- what an edit makes of a cell in a range of its own
pub marking_told : (t : Lamport) (h : History) (v : Entries) → edit_marking t (seen_history h v) v ≡ marking (undo_entries h) t v
marking_told t h v = λ i. record {
  visible = λ u b d. cond (was_told h v u d i) false b;
  deletions = λ u d. cond (was_told h v u d i) (with_deletion t d) d;
}
