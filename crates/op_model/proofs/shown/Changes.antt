-- What one operation more changes of the cells: which an edit deletes, and which an undo shows and hides.
use Rattle.std.proofs.Common.{◌≡◌, ℕ, ◌%◌, Bool, List, [], ◌∷◌, ◌++◌, map, refl, sym, ◌∙◌, ap, true, false, cond, ◌&&◌, eqb}
use Rattle.lamport_clock.specs.declared.stamp.Lamport.{Lamport}
use Rattle.lamport_clock.specs.Versions.{sees}
use Rattle.op_model.specs.declared.operation.Operation.{Operation}
use Rattle.op_model.specs.Operations.{stamp_of, version_of, pieces_of, is_edit}
use Rattle.op_model.specs.Histories.{History, newest_first, by_stamp, seen_history}
use Rattle.op_model.specs.Cells.{Cell, PathCell, everything, seq}
use Rattle.op_model.specs.Shown.{count, is_undone, are_undone, in_ranges, shows_where, shows, deleters_where, deleters, deletes, visible_by}
use Rattle.op_model.specs.Facts.{Fact, cell_facts, with_deletion}
use Rattle.op_model.specs.Answers.{answer}
use Rattle.op_model.specs.Answers.Answer.{Good}
use Rattle.op_model.proofs.order.SameSets.{newest_desc, seq_seen}
use Rattle.op_model.proofs.shown.Parts.{shown_seen}
use Rattle.op_model.proofs.histories.OneMore.{Fits, newest_append}
use Rattle.op_model.proofs.shown.Deleters.{hits, shown_more}
use Rattle.op_model.proofs.shown.Deletions.{late_deletions}
use Rattle.op_model.proofs.answers.Good.{Ready, checked_of, fits_of}
use Rattle.op_model.proofs.answers.Counted.{Counted, uncounted_new}
use Rattle.op_model.proofs.shown.EditTold.{hit_is, shown_now, deleters_now, new_none, new_shown}
use Rattle.op_model.proofs.shown.UndoTold.{fact_anew, hits_none, no_pieces, undo_told}
use Rattle.op_model.proofs.shown.OnePass.{no_counts, count_newest}

-- the test by sorted history is the one by what the version sees
pub hits_seen : (h : History) (op : Operation) (c : Cell) → hits everything op (newest_first h) c ≡ deletes h op c
unfolding shows_where
hits_seen h op c =
    ap (λ (x : List PathCell). in_ranges x 0 (pieces_of op) c && shows_where (sees (version_of op)) (newest_first h) c) (sym (seq_seen h (version_of op)))
    ∙ ap (λ (b : Bool). in_ranges (seq (seen_history h (version_of op))) 0 (pieces_of op) c && b) (sym (shown_seen h (version_of op) c))

module _ (h : History) (op : Operation) (r : Ready h) (k : Counted h) (g : answer h [] op ≡ Good) where
  fits : Fits h op
  fits = let c = checked_of h op g in fits_of h op r.0 c.0 c.1

  uncounted : count (newest_first h) (stamp_of op) ≡ 0
  uncounted = uncounted_new h (stamp_of op) k (checked_of h op g).0.new

  pub edit_deleters : is_edit op ≡ true → (c : Cell)
      → deleters (h ++ op ∷ []) c ≡ cond (deletes h op c) (with_deletion (stamp_of op) (deleters h c)) (deleters h c)
  edit_deleters e c = deleters_now h op fits (newest_desc h r.0.distinct) (no_counts op e) uncounted c
      ∙ ap (λ (b : Bool). cond b (with_deletion (stamp_of op) (deleters h c)) (deleters h c))
      (sym (hit_is h op fits (newest_desc h r.0.distinct) (no_counts op e) uncounted c) ∙ hits_seen h op c)

  pub edit_shown : is_edit op ≡ true → (c : Cell) → shows (h ++ op ∷ []) c ≡ cond (deletes h op c) false (shows h c)
  edit_shown e c = shown_now h op fits (newest_desc h r.0.distinct) (no_counts op e) uncounted c
      ∙ ap (λ (b : Bool). cond b false (shows h c)) (sym (hit_is h op fits (newest_desc h r.0.distinct) (no_counts op e) uncounted c) ∙ hits_seen h op c)

  pub new_cells : is_edit op ≡ true → (n : ℕ)
      → (deleters (h ++ op ∷ []) (record { stamp = stamp_of op; k = n }) ≡ []) × (shows (h ++ op ∷ []) (record { stamp = stamp_of op; k = n }) ≡ true)
  new_cells e n = (new_none h op fits (newest_desc h r.0.distinct) (no_counts op e) uncounted n, new_shown h op fits (newest_desc h r.0.distinct) (no_counts op e) uncounted n)

  pub undo_deleters : is_edit op ≡ false → (c : Cell) → deleters (h ++ op ∷ []) c ≡ deleters h c
  undo_deleters e c = ap (λ (x : History). deleters_where everything x c) (newest_append h op)
      ∙ late_deletions everything op (newest_first h) c fits.apart (newest_desc h r.0.distinct) refl
      ∙ ap (λ (b : Bool). cond b (with_deletion (stamp_of op) (deleters h c)) (deleters h c)) (hits_none op (newest_first h) c (no_pieces op e))

  count_now : (t : Lamport) → count (by_stamp op (newest_first h)) t ≡ count (h ++ op ∷ []) t
  count_now t = ap (λ (x : History). count x t) (sym (newest_append h op)) ∙ count_newest (h ++ op ∷ []) t

  undone_now : (t : Lamport) → is_undone (by_stamp op (newest_first h)) t ≡ is_undone (h ++ op ∷ []) t
  undone_now t = ap (λ (n : ℕ). eqb (n % 2) 1) (count_now t)

  all_now : (d : List Lamport) → are_undone (by_stamp op (newest_first h)) d ≡ are_undone (h ++ op ∷ []) d
  all_now [] = refl
  all_now (t ∷ d) = rw (undone_now t, all_now d) refl

  pub undo_shown : is_edit op ≡ false → (c : Cell) → shows (h ++ op ∷ []) c ≡ visible_by (h ++ op ∷ []) c.stamp (deleters h c)
  undo_shown e c = shown_more h op c fits
      ∙ rw (hits_none op (newest_first h) c (no_pieces op e), undone_now c.stamp, all_now (deleters_where everything (newest_first h) c)) refl

  -- the fact of each cell by the new counts
  pub told_anew : is_edit op ≡ false → cell_facts (h ++ op ∷ []) ≡ map (fact_anew (h ++ op ∷ [])) (cell_facts h)
  told_anew e = undo_told h op r g e ∙ ap (λ (f : Fact → Fact). map f (cell_facts h)) (λ i q. record { cell = q.cell; visible = now q i; deletions = q.deletions })
    where
      now : (q : Fact) → visible_by (by_stamp op (newest_first h)) q.cell.stamp q.deletions ≡ visible_by (h ++ op ∷ []) q.cell.stamp q.deletions
      now q = rw (undone_now q.cell.stamp, all_now q.deletions) refl
