-- Fragments after the walk of an edit: what they were before it, and which are shown.
use Rattle.std.proofs.Common.{◌≡◌, ℕ, ◌+◌, Bool, false, List, [], ◌∷◌, length, map, refl, sym, ap, ◌∙◌, arith, subst, inl, inr}
use Rattle.std.proofs.lemmas.Bool.{cases_Bool}
use Rattle.std.specs.List.{AllByRecursion, filter, list_any}
use Rattle.lamport_clock.specs.declared.stamp.Lamport.{Lamport}
use Rattle.lamport_clock.specs.Stamps.{same_stamp}
use Rattle.lamport_clock.specs.Versions.{Entries, sees}
use Rattle.lamport_clock.proofs.Later.{same_stamp_eq}
use Rattle.lamport_clock.proofs.Sees.{passed_unseen}
use Rattle.op_model.specs.declared.operation.Operation.{Operation}
use Rattle.op_model.specs.Operations.{stamp_of, version_of, pieces_of, text_total}
use Rattle.op_model.specs.Histories.{History, newest_first}
use Rattle.op_model.specs.Cells.{Cell, cells, seq}
use Rattle.op_model.specs.Shown.{texts, deleters, deletes, visible_by}
use Rattle.op_model.specs.Answers.{answer}
use Rattle.op_model.specs.Answers.Answer.{Good}
use Rattle.op_model.specs.Lawful.{Lawful}
use Rattle.op_model.specs.Facts.{Fact, fact}
use Rattle.op_model.specs.Walked.{Run, facts_of}
use Rattle.op_model.specs.Walked as W
use Rattle.op_model.proofs.histories.OneMore.{Fits}
use Rattle.op_model.proofs.answers.Good.{lawful_ready, checked_of, fits_of}
use Rattle.op_model.proofs.order.Literal.{lawful_deleters}
use Rattle.undo_map.specs.declared.entry.UndoEntry.{UndoEntry}
use Rattle.undo_map.specs.Undos.{undo_entries}
use Rattle.fragments.specs.declared.fragment.Fragment.{Fragment}
use Rattle.fragments.specs.DeletedRuns.{IndexState}
use Rattle.fragments.specs.Stand.{runs, Tell, IsFilled, Stand}
use Rattle.remote_edit.specs.Marks.{is_shown, marking}
use Rattle.remote_edit.specs.Walk.{walk}
use Rattle.remote_edit.specs.Indexes.{EndsBefore}
use Rattle.remote_edit.specs.BeforeEdit.{before_edit, IsByCounts, runs_by, InOrder, Brings, IsUntouched}
use Rattle.remote_edit.proofs.Marks.{is_told}
use Rattle.remote_edit.proofs.Changing.{changing}
use Rattle.remote_edit.proofs.Runs.{walk_as}
use Rattle.remote_edit.proofs.Standing.{indexed_start}
use Rattle.remote_edit.proofs.OfFacts.{of_facts}
use Rattle.remote_edit.proofs.UndoStands.{told_by_history}
use Rattle.remote_edit.proofs.BeforeEdit.{IsOld, old_runs, runs_before, walk_kept, text_totals}

-- fragments with the cells of a history are shown by its counts
pub shown_by_counts : (h : History) (u : List UndoEntry) (fs : List Fragment) → u ≡ undo_entries h → AllByRecursion IsFilled fs → Tell fs h → AllByRecursion (IsByCounts u) fs
shown_by_counts h u fs e l s = of_facts (λ t v d. v ≡ is_shown u t d) fs l
    (subst (AllByRecursion (λ (q : Fact). q.visible ≡ is_shown u q.cell.stamp q.deletions)) (sym s) (go (cells (seq h)) (told_by_history h (seq h))))
  where
    go : (s : List Cell) → AllByRecursion (λ (q : Fact). q.visible ≡ visible_by h q.cell.stamp q.deletions) (map (fact h) s) → AllByRecursion (λ (q : Fact). q.visible ≡ is_shown u q.cell.stamp q.deletions) (map (fact h) s)
    go [] x = tt
    go (c ∷ s) x = (x.0 ∙ is_told h c.stamp (deleters h c) ∙ ap (λ (w : List UndoEntry). is_shown w c.stamp (deleters h c)) (sym e), go s x.1)

-- no edit that is not in a history deletes a cell of it
module _ (h : History) (t : Lamport) (l : Lawful h) (fresh : AllByRecursion (λ (o : Operation). stamp_of o ≡ t → ⊥) (newest_first h)) where
  not_same : (s : Lamport) → (s ≡ t → ⊥) → same_stamp t s ≡ false
  not_same s n = elim (cases_Bool (same_stamp t s)) [ inl e ↦ absurd (n (sym (same_stamp_eq t s e))) | inr e ↦ e ]

  none_of : (p : Operation → Bool) (ops : List Operation) → AllByRecursion (λ (o : Operation). stamp_of o ≡ t → ⊥) ops → list_any (same_stamp t) (map stamp_of (filter p ops)) ≡ false
  none_of p [] n = refl
  none_of p (o ∷ ops) n = elim (cases_Bool (p o)) [
    | inl e ↦ rw (e, not_same (stamp_of o) n.0) (none_of p ops n.1)
    | inr e ↦ rw e (none_of p ops n.1)
  ]

  undeleted_told : (s : List Cell) → AllByRecursion (λ (q : Fact). list_any (same_stamp t) q.deletions ≡ false) (map (fact h) s)
  undeleted_told [] = tt
  undeleted_told (c ∷ s) = (ap (list_any (same_stamp t)) (lawful_deleters h l c) ∙ none_of (λ o. deletes h o c) (newest_first h) fresh, undeleted_told s)

  pub undeleted_all : (fs : List Fragment) → AllByRecursion IsFilled fs → Tell fs h → AllByRecursion (λ (f : Fragment). list_any (same_stamp t) f.deletions ≡ false) fs
  undeleted_all fs e s = of_facts (λ u v d. list_any (same_stamp t) d ≡ false) fs e (subst (AllByRecursion (λ (q : Fact). list_any (same_stamp t) q.deletions ≡ false)) (sym s) (undeleted_told (cells (seq h))))

  others : (u : List UndoEntry) (fs : List Fragment) → AllByRecursion IsFilled fs → AllByRecursion (EndsBefore t 0) fs → AllByRecursion (λ (f : Fragment). list_any (same_stamp t) f.deletions ≡ false) fs → AllByRecursion (IsByCounts u) fs
      → AllByRecursion (IsOld u t) (runs fs)
  others u [] f b d s = tt
  others u (x ∷ fs) f b d s = (
    record { other = not_same x.stamp (λ e. let k = b.0 e in let n = f.0.0 in absurd (omega (arith, k, n))); free = d.0; shown = s.0 },
    others u fs f.1 b.1 d.1 s.1,
  )

  untouched_each : (u : List UndoEntry) (fs : List Fragment) → AllByRecursion IsFilled fs → AllByRecursion (EndsBefore t 0) fs → AllByRecursion (λ (f : Fragment). list_any (same_stamp t) f.deletions ≡ false) fs → AllByRecursion (IsByCounts u) fs
      → AllByRecursion (IsUntouched u t) fs
  untouched_each u [] f b d s = tt
  untouched_each u (x ∷ xs) f b d s = (
    record { other = not_same x.stamp (λ e. let k = b.0 e in let n = f.0.0 in absurd (omega (arith, k, n))); free = d.0; shown = s.0 },
    untouched_each u xs f.1 b.1 d.1 s.1,
  )

module _ (h : History) (op : Operation) (u : List UndoEntry) (fs : List Fragment) (i : IndexState) (s : Stand fs i u h) (l : Lawful h) (g : answer h [] op ≡ Good) where
  abbrev t : Lamport
  t = stamp_of op

  abbrev v : Entries
  v = version_of op

  abbrev pub placed_fragments : List Fragment
  placed_fragments = walk u t v 0 0 (pieces_of op) [] fs

  pub fits : Fits h op
  fits = let k = checked_of h op g in fits_of h op (lawful_ready h l).0 k.0 k.1

  old : AllByRecursion (IsOld u t) (runs fs)
  old = others h t l fits.fresh u fs s.filled (indexed_start fs i u h op s l g).entered.before (undeleted_all h t l fits.fresh fs s.filled s.cells) (shown_by_counts h u fs s.counts s.filled s.cells)

  pub untouched : AllByRecursion (IsUntouched u t) fs
  untouched = untouched_each h t l fits.fresh u fs s.filled (indexed_start fs i u h op s l g).entered.before (undeleted_all h t l fits.fresh fs s.filled s.cells) (shown_by_counts h u fs s.counts s.filled s.cells)

  pub placed_runs : runs placed_fragments ≡ W.walk (marking u t v) (sees v) t 0 0 (changing (pieces_of op)) (runs fs)
  placed_runs = walk_as u t v (λ x. passed_unseen v t x fits.above) 0 0 (pieces_of op) [] fs

  pub told_before : Tell (before_edit u t placed_fragments) h
  told_before = ap facts_of (runs_before u t placed_fragments ∙ ap (old_runs u t) placed_runs) ∙ (walk_kept u t v 0 0 (changing (pieces_of op)) (runs fs) old).0 ∙ s.cells

  pub brings : Brings t 0 (length (texts (pieces_of op))) placed_fragments
  brings =
      let n : 0 + text_total (changing (pieces_of op)) ≡ length (texts (pieces_of op)) = let k = text_totals (pieces_of op) in omega (arith, k) in
      subst (λ (m : ℕ). InOrder 0 m (runs_by t (runs placed_fragments))) n
      (subst (λ (r : List Run). InOrder 0 (0 + text_total (changing (pieces_of op))) (runs_by t r)) (sym placed_runs) (walk_kept u t v 0 0 (changing (pieces_of op)) (runs fs) old).1)
