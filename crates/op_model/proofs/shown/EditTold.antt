-- The facts of a history with one edit more, from the facts before.
use Rattle.std.proofs.Common.{◌≡◌, ℕ, ◌%◌, max, Bool, List, [], ◌∷◌, ◌++◌, refl, sym, ◌∙◌, ap, true, false, cond, not, ◌&&◌, eqb, arith}
use Rattle.std.specs.List.{AllByRecursion}
use Rattle.lamport_clock.specs.declared.stamp.Lamport.{Lamport}
use Rattle.op_model.specs.declared.operation.Operation.{Operation}
use Rattle.op_model.specs.Histories.{History, newest_first, by_stamp, kept_history}
use Rattle.lamport_clock.specs.Versions.{Entries, sees}
use Rattle.op_model.specs.Operations.{stamp_of, version_of, pieces_of, counts_of}
use Rattle.op_model.specs.Cells.{Cell, PathCell, seq, seq_where, everything}
use Rattle.op_model.specs.Laid.{only, lay}
use Rattle.op_model.specs.Shown.{count, is_undone, are_undone, in_ranges, in_pieces, visible_by, deleters_where, shows_where, shows, deleters}
use Rattle.op_model.specs.Facts.{fact, cell_facts, was_visible, with_deletion, lay_facts, mark, marks, Marking, edit_marking}
use Rattle.op_model.proofs.order.Restricted.{restrict}
use Rattle.op_model.proofs.order.SameSets.{Desc}
use Rattle.op_model.proofs.histories.OneMore.{Fits, newest_append}
use Rattle.op_model.proofs.shown.Deleters.{hits, count_by_stamp, kept_all, shown_more}
use Rattle.op_model.proofs.shown.Deletions.{deleters_restrict, late_deletions, not_deleted, not_hit}
use Rattle.op_model.proofs.order.Unique.{seq_unique}
use Rattle.op_model.proofs.shown.Told.{tell, telling, tell_lay, tell_marks}

module _ (h : History) (op : Operation) (f : Fits h op) (desc : Desc (newest_first h)) (edit : counts_of op ≡ [])
    (uncounted : count (newest_first h) (stamp_of op) ≡ 0) where
  abbrev d : History
  d = newest_first h

  abbrev t : Lamport
  t = stamp_of op

  abbrev v : Entries
  v = version_of op

  abbrev w : History
  w = kept_history (sees v) d

  same_count : (x : Lamport) → count (by_stamp op d) x ≡ count d x
  same_count x = count_by_stamp op d x ∙ rw edit (max_zero (count d x))
    where
      max_zero : (n : ℕ) → max 0 n ≡ n
      max_zero n = omega arith

  same_undone : (x : Lamport) → is_undone (by_stamp op d) x ≡ is_undone d x
  same_undone x = ap (λ (n : ℕ). eqb (n % 2) 1) (same_count x)

  same_all : (l : List Lamport) → are_undone (by_stamp op d) l ≡ are_undone d l
  same_all [] = refl
  same_all (x ∷ l) = rw (same_undone x, same_all l) refl

  not_undone : is_undone d t ≡ false
  not_undone = ap (λ (n : ℕ). eqb (n % 2) 1) uncounted

  abbrev ranged : Cell → Bool
  ranged c = in_ranges (only (sees v) (seq_where everything d)) 0 (pieces_of op) c

  abbrev was : Cell → Bool
  was c = was_visible w v c.stamp (deleters_where everything d c)

  pub hit_is : (c : Cell) → hits everything op d c ≡ (ranged c && was c)
  hit_is c = rw (restrict (sees v) d f.closed, deleters_restrict (sees v) d c f.closed) refl

  shown_is : (c : Cell) → shows h c ≡ (not (is_undone d c.stamp) && are_undone d (deleters_where everything d c))
  unfolding shows shows_where
  shown_is c = ap (λ (x : History). visible_by x c.stamp (deleters_where everything d c)) (kept_all d)

  pub shown_now : (c : Cell) → shows (h ++ op ∷ []) c ≡ cond (ranged c && was c) false (shows h c)
  shown_now c = shown_more h op c f ∙ rw (same_undone c.stamp, same_undone t, same_all (deleters_where everything d c), not_undone, hit_is c, shown_is c)
      (pick (ranged c && was c) (is_undone d c.stamp) (are_undone d (deleters_where everything d c)))
    where
      pick : (b x y : Bool) → (not x && (cond b false true && y)) ≡ cond b false (not x && y)
      pick true true y = refl
      pick true false y = refl
      pick false x y = refl

  pub deleters_now : (c : Cell) → deleters (h ++ op ∷ []) c ≡ cond (ranged c && was c) (with_deletion t (deleters h c)) (deleters h c)
  deleters_now c = ap (λ (x : History). deleters_where everything x c) (newest_append h op) ∙ late_deletions everything op d c f.apart desc refl
      ∙ ap (λ (b : Bool). cond b (with_deletion t (deleters h c)) (deleters h c)) (hit_is c)

  new_unhit : (k : ℕ) → (ranged (record { stamp = t; k = k }) && was (record { stamp = t; k = k })) ≡ false
  new_unhit k = sym (hit_is (record { stamp = t; k = k })) ∙ not_hit everything op d (record { stamp = t; k = k }) f.fresh

  pub new_none : (k : ℕ) → deleters (h ++ op ∷ []) (record { stamp = t; k = k }) ≡ []
  new_none k = deleters_now (record { stamp = t; k = k }) ∙ rw (new_unhit k) (not_deleted everything d (record { stamp = t; k = k }) f.fresh)

  pub new_shown : (k : ℕ) → shows (h ++ op ∷ []) (record { stamp = t; k = k }) ≡ true
  new_shown k = shown_now (record { stamp = t; k = k }) ∙ rw (new_unhit k, shown_is (record { stamp = t; k = k }), not_undone, not_deleted everything d (record { stamp = t; k = k }) f.fresh) refl

  abbrev pub marking : Marking
  marking = edit_marking t w v

  anew : (c : Cell) → fact (h ++ op ∷ []) c ≡ cond (ranged c) (mark marking (fact h c)) (fact h c)
  anew c = rw (shown_now c, deleters_now c) (pick (ranged c) (was c))
    where
      pick : (a b : Bool) → tell (λ x. cond (a && b) false (shows h c)) (λ x. cond (a && b) (with_deletion t (deleters h c)) (deleters h c)) c
          ≡ cond a (record { cell = c; visible = cond b false (shows h c); deletions = cond b (with_deletion t (deleters h c)) (deleters h c) }) (fact h c)
      pick true b = refl
      pick false b = refl

  each_anew : (s r : List PathCell) → s ≡ seq_where everything d → AllByRecursion (λ (q : PathCell). fact (h ++ op ∷ []) q.cell ≡ cond (in_ranges (only (sees v) s) 0 (pieces_of op) q.cell) (mark marking (fact h q.cell)) (fact h q.cell)) r
  each_anew s [] i = tt
  each_anew s (q ∷ r) i = (rw i (anew q.cell), each_anew s r i)

  pub edit_told : seq (h ++ op ∷ []) ≡ lay (sees v) t 0 (pieces_of op) (seq h)
      → cell_facts (h ++ op ∷ []) ≡ lay_facts (sees v) t 0 0 (pieces_of op) (marks marking (sees v) (in_pieces (pieces_of op)) 0 (cell_facts h))
  unfolding seq
  edit_told l =
      ap (telling (shows (h ++ op ∷ [])) (deleters (h ++ op ∷ []))) l
      ∙ tell_lay (shows (h ++ op ∷ [])) (deleters (h ++ op ∷ [])) t new_shown new_none (sees v) 0 (pieces_of op) (seq h)
      ∙ ap (lay_facts (sees v) t 0 0 (pieces_of op)) (tell_marks marking (sees v) (pieces_of op) (shows h) (shows (h ++ op ∷ [])) (deleters h) (deleters (h ++ op ∷ []))
      (seq h) 0 (seq_unique everything d desc) (each_anew (seq h) (seq h) refl))
