-- The moves of an undo in the two texts.
use Rattle.std.proofs.Common.{◌≡◌, ℕ, Bool, true, false, List, [], ◌∷◌, ◌++◌, inl, inr, refl, sym, ap, ◌∙◌, subst, slice_get}
use Rattle.std.specs.List.{list_any}
use Rattle.std.proofs.lemmas.Bool.{cases_Bool, both_ways}
use Rattle.lamport_clock.specs.declared.stamp.Lamport.{Lamport}
use Rattle.lamport_clock.specs.Versions.{raise, join_versions}
use Rattle.lamport_clock.proofs.Sees.{raise_sees, sees_joined}
use Rattle.locators.specs.Locator.{least_digits}
use Rattle.op_model.specs.Sorted.{Member}
use Rattle.op_model.specs.declared.operation.UndoOp.{UndoOp}
use Rattle.op_model.specs.declared.operation.Operation.TheVariants.{Undo}
use Rattle.op_model.specs.Histories.{History}
use Rattle.op_model.specs.Answers.{answer}
use Rattle.op_model.specs.Answers.Answer.{Good}
use Rattle.op_model.specs.Lawful.{Lawful}
use Rattle.undo_map.specs.Undos.{undo_entries}
use Rattle.undo_map.specs.declared.entry.UndoEntry.{UndoEntry}
use Rattle.fragments.specs.declared.fragment.Fragment.{Fragment}
use Rattle.fragments.specs.DeletedRuns.{IndexState}
use Rattle.fragments.specs.Stand.{Stand}
use Rattle.fragments.specs.Summaries.{summary_of}
use Rattle.fragments.specs.SummaryLaws.{sees_stamps}
use Rattle.remote_edit.specs.declared.moves.Move.{Move}
use Rattle.remote_edit.specs.Carried.{move_for, CarryOn, AreMovesOf}
use Rattle.remote_edit.specs.Among.{moves_among}
use Rattle.remote_edit.specs.Anew.{anew, concerns, recount, all_anew, Counts}
use Rattle.remote_edit.specs.Concern.{sees_edit}
use Rattle.remote_edit.specs.Finds.{IsFound, place_from}
use Rattle.remote_edit.specs.UndoMoves.{visible_or, was_visible, undo_move}
use Rattle.remote_edit.proofs.MovesAmong.{Became, read_carried}
use Rattle.remote_edit.proofs.Finds.{place_found, place_by, each_of}
use Rattle.remote_edit.proofs.Carrying.{SameCells}
use Rattle.remote_edit.proofs.Texts.{carried_texts}
use Rattle.remote_edit.proofs.UndoStands.{undo_stands}
use Rattle.remote_edit.proofs.Anew.{concerned, unconcerned, same_len}

-- the cells of a fragment stay
pub same_cells : (w : List UndoEntry) (by : Lamport) (ts : List Lamport) (f : Fragment) → SameCells f (anew w by ts f)
same_cells w by ts f = elim (cases_Bool (list_any (concerns f) ts)) [
  | inl h ↦ subst (SameCells f) (sym (concerned w by ts f h)) (refl, refl, refl)
  | inr h ↦ subst (SameCells f) (sym (unconcerned w by ts f h)) (refl, refl, refl)
]

module _ (w : List UndoEntry) (by : Lamport) (ts : List Lamport) (fs : List Fragment) (x : IndexState) (found : IsFound fs x) where
  same_id : (f : Fragment) → (anew w by ts f).id ≡ f.id
  same_id f = elim (cases_Bool (list_any (concerns f) ts)) [ inl h ↦ ap (λ (g : Fragment). g.id) (concerned w by ts f h) | inr h ↦ ap (λ (g : Fragment). g.id) (unconcerned w by ts f h) ]

  -- the undo is seen of what it counts anew
  seen_anew : (f : Fragment) → sees_edit by (summary_of (recount w by f)) ≡ true
  seen_anew f = sees_stamps (f.stamp ∷ f.deletions) (join_versions [] (raise f.max_undos by)) by ((sees_joined [] (raise f.max_undos by) by).1 (raise_sees f.max_undos by))

  stayed : (f : Fragment) → sees_edit by (summary_of (anew w by ts f)) ≡ false → anew w by ts f ≡ f
  stayed f h = elim (cases_Bool (list_any (concerns f) ts)) [
    | inl e ↦ absurd (both_ways _ (ap (λ (g : Fragment). sees_edit by (summary_of g)) (sym (concerned w by ts f e)) ∙ h) (seen_anew f))
    | inr e ↦ unconcerned w by ts f e
  ]

  was : (f : Fragment) → Member f fs → was_visible fs (anew w by ts f) ≡ f.visible
  was f m =
      let p = place_by fs x found f m in
      let at : place_from (anew w by ts f).id fs ≡ p.0 = ap (λ (z : List ℕ). place_from z fs) (same_id f) ∙ place_found least_digits fs p.0 f found.ids p.1 in
      ap (visible_or (anew w by ts f).visible) (ap (slice_get fs) at ∙ p.1)

  became : (f : Fragment) → Member f fs → Became (sees_edit by) (undo_move fs) (anew w by ts) f
  became f m = record {
    cells = same_cells w by ts f;
    move = ap (λ (b : Bool). move_for b (anew w by ts f).visible (anew w by ts f).len) (was f m) ∙ ap (move_for f.visible (anew w by ts f).visible) (same_len w by ts f);
    stays = stayed f;
  }

  -- the moves of the walk carry the bytes along
  pub undo_carried : (gs : List Fragment) (ms : List Move) (t : Lamport) → gs ≡ all_anew w by ts fs → ms ≡ moves_among (sees_edit by) (undo_move fs) gs → CarryOn t [] [] fs 0 ms (all_anew w by ts fs) [] 0
  undo_carried gs ms t g e =
      subst (λ (z : List Move). CarryOn t [] [] fs 0 z (all_anew w by ts fs) [] 0) (sym (e ∙ ap (moves_among (sees_edit by) (undo_move fs)) g))
      (read_carried (sees_edit by) (undo_move fs) (anew w by ts) t fs (each_of (Became (sees_edit by) (undo_move fs) (anew w by ts)) fs became))

-- ---- the texts of the history with the undo

pub undo_moved : (h : History) (u : UndoOp) (w : List UndoEntry) (ts : List Lamport) (by : Lamport) (fs : List Fragment) (i : IndexState) (ms : List Move) → u.stamp ≡ by → Counts (Undo u) ts → Lawful h → answer h [] (Undo u) ≡ Good
    → w ≡ undo_entries (h ++ Undo u ∷ []) → Stand fs i (undo_entries h) h → ((t : Lamport) → CarryOn t [] [] fs 0 ms (all_anew w by ts fs) [] 0) → AreMovesOf ms h (Undo u)
undo_moved h u w ts by fs i ms e k l g n s c =
    carried_texts h (Undo u) fs (all_anew w u.stamp ts fs) ms l g s.cells (undo_stands h (Undo u) w ts l g refl n k fs i (undo_entries h) s).cells
    (subst (λ (b : Lamport). CarryOn u.stamp [] [] fs 0 ms (all_anew w b ts fs) [] 0) (sym e) (c u.stamp))
