-- Fragments after an undo of edits stand for the history with the undo.
use Rattle.std.proofs.Common.{◌≡◌, ℕ, zero, suc, ◌<◌, ◌↔◌, leb, Bool, true, false, List, [], ◌∷◌, ◌++◌, map, refl, sym, ap, ◌∙◌, arith, subst, inl, inr}
use Rattle.std.proofs.lemmas.Bool.{cases_Bool, and_from, le-leb}
use Rattle.std.specs.List.{AllByRecursion, list_any}
use Rattle.lamport_clock.specs.declared.stamp.Lamport.{Lamport}
use Rattle.lamport_clock.specs.Stamps.{same_stamp}
use Rattle.lamport_clock.specs.Versions.{raise, sees}
use Rattle.lamport_clock.proofs.Sees.{raise_sees, sees_raise}
use Rattle.lamport_clock.proofs.Later.{same_stamp_refl}
use Rattle.locators.specs.Locator.{least_digits}
use Rattle.op_model.specs.declared.operation.Operation.{Operation}
use Rattle.op_model.specs.declared.operation.UndoCount.{UndoCount}
use Rattle.op_model.specs.declared.operation.UndoOp.{UndoOp}
use Rattle.op_model.specs.declared.operation.Operation.TheVariants.{Undo}
use Rattle.op_model.specs.Sorted.{Member}
use Rattle.op_model.specs.Operations.{stamp_of, counts_of, is_edit}
use Rattle.op_model.specs.Histories.{History}
use Rattle.op_model.specs.Cells.{PathCell, cells, seq}
use Rattle.op_model.specs.Shown.{visible_by}
use Rattle.op_model.specs.Answers.{answer}
use Rattle.op_model.specs.Answers.Answer.{Good}
use Rattle.op_model.specs.Lawful.{Lawful}
use Rattle.op_model.specs.Facts.{Fact, fact, alike}
use Rattle.op_model.specs.Walked.{Run, run_facts, facts_of}
use Rattle.op_model.proofs.histories.Lawful.{in_append}
use Rattle.op_model.proofs.MainLaws.{undo_is_told}
use Rattle.op_model.proofs.Elements.{any_member, each_member}
use Rattle.op_model.proofs.shown.Counts.{undone_same, all_same}
use Rattle.op_model.proofs.shown.Visible.{shown_seen}
use Rattle.undo_map.specs.declared.entry.UndoEntry.{UndoEntry}
use Rattle.undo_map.specs.Undos.{undo_entries}
use Rattle.fragments.specs.declared.fragment.Fragment.{Fragment}
use Rattle.fragments.specs.declared.index_entry.IndexEntry.{IndexEntry}
use Rattle.fragments.specs.DeletedRuns.{IndexState}
use Rattle.remote_edit.proofs.Deleting.{runs_same}
use Rattle.fragments.specs.Stand.{run_of, runs, Tell, IsFilled, Rise, entry_of, SeesUndos, Stand}
use Rattle.remote_edit.specs.Marks.{is_shown}
use Rattle.remote_edit.specs.Anew.{concerns, recount, anew, all_anew, Counts}
use Rattle.remote_edit.proofs.Marks.{is_told}
use Rattle.remote_edit.proofs.LaterDeletions.{HasLaterDeletions, late_deletions}
use Rattle.remote_edit.proofs.OfFacts.{of_facts}

-- a cell, and a fragment, is shown exactly if the history shows it
abbrev ByHistory : History → Fact → Type 0
ByHistory h q = q.visible ≡ visible_by h q.cell.stamp q.deletions

pub told_by_history : (h : History) (s : List PathCell) → AllByRecursion (ByHistory h) (map (fact h) (cells s))
told_by_history h [] = tt
told_by_history h (p ∷ s) = (shown_seen h p.cell, told_by_history h s)

abbrev pub IsByHistory : History → Fragment → Type 0
IsByHistory h f = f.visible ≡ visible_by h f.stamp f.deletions

by_history : (h : History) (fs : List Fragment) → AllByRecursion IsFilled fs → AllByRecursion (ByHistory h) (facts_of (runs fs)) → AllByRecursion (IsByHistory h) fs
by_history h fs l e = of_facts (λ t v d. v ≡ visible_by h t d) fs l e

module _ (h : History) (op : Operation) (w : List UndoEntry) (ts : List Lamport) (lawful : Lawful h) (good : answer h [] op ≡ Good) (undo : is_edit op ≡ false)
    (now : w ≡ undo_entries (h ++ op ∷ [])) (all : Counts op ts) where
  abbrev next : History
  next = h ++ op ∷ []

  abbrev m : Fragment → Fragment
  m = anew w (stamp_of op) ts

  -- the edit and the deletions of a fragment are not earlier than it
  as_late : (f : Fragment) → HasLaterDeletions f → (t : Lamport) → Member t (f.stamp ∷ f.deletions) → leb f.stamp.value t.value ≡ true
  as_late f d t (inl e) = subst (λ (x : Lamport). leb f.stamp.value x.value ≡ true) (sym e) (le-leb f.stamp.value f.stamp.value (omega arith))
  as_late f d t (inr i) = let l = each_member (λ (x : Lamport). f.stamp.value < x.value) f.deletions t d i in le-leb f.stamp.value t.value (omega arith)

  -- a fragment that no edit of the list concerns is not counted
  uncounted : (f : Fragment) → HasLaterDeletions f → list_any (concerns f) ts ≡ false → (c : UndoCount) (t : Lamport) → Member c (counts_of op) → Member t (f.stamp ∷ f.deletions) → c.edit ≡ t → ⊥
  uncounted f d n c t i j e =
      let same : same_stamp c.edit t ≡ true = subst (λ (x : Lamport). same_stamp c.edit x ≡ true) e (same_stamp_refl c.edit) in
      let k : concerns f c.edit ≡ true = and_from _ _ (subst (λ (x : Lamport). leb f.stamp.value x.value ≡ true) (sym e) (as_late f d t j)) (any_member (same_stamp c.edit) (f.stamp ∷ f.deletions) t j same) in
      let g : list_any (concerns f) ts ≡ true = any_member (concerns f) ts c.edit (all c i) k in cc

  run_anew : (f : Fragment) → HasLaterDeletions f → IsByHistory h f → run_of (m f) ≡ record { stamp = f.stamp; offset = f.offset; len = f.len; visible = visible_by next f.stamp f.deletions; deletions = f.deletions }
  run_anew f z e = elim (cases_Bool (list_any (concerns f) ts)) [
    | inl k ↦ rw k (ap (λ (b : Bool). as_run f b) (ap (λ (x : List UndoEntry). is_shown x f.stamp f.deletions) now ∙ sym (is_told next f.stamp f.deletions)))
    | inr k ↦ (let n = uncounted f z k in
        let a = undone_same h op f.stamp (λ c i. n c f.stamp i (inl refl)) in
        let b = all_same h op f.deletions (λ c t i j. n c t i (inr j)) in
        let s : visible_by next f.stamp f.deletions ≡ visible_by h f.stamp f.deletions = rw (a, b) refl in
        rw k (ap (λ (b : Bool). as_run f b) (e ∙ sym s)))
  ]
    where
      as_run : Fragment → Bool → Run
      as_run f b = record { stamp = f.stamp; offset = f.offset; len = f.len; visible = b; deletions = f.deletions }

  abbrev told_anew : Fact → Fact
  told_anew q = record { cell = q.cell; visible = visible_by next q.cell.stamp q.deletions; deletions = q.deletions }

  facts_anew : (t : Lamport) (k n : ℕ) (v : Bool) (d : List Lamport) (s : List Fact) → alike t k n (visible_by next t d) d ++ map told_anew s ≡ map told_anew (alike t k n v d ++ s)
  facts_anew t k zero v d s = refl
  facts_anew t k (suc n) v d s = ap (λ (z : List Fact). record { cell = record { stamp = t; k = k }; visible = visible_by next t d; deletions = d } ∷ z) (facts_anew t (suc k) n v d s)

  all_told : (fs : List Fragment) → AllByRecursion HasLaterDeletions fs → AllByRecursion (IsByHistory h) fs → facts_of (runs (map m fs)) ≡ map told_anew (facts_of (runs fs))
  all_told [] z e = refl
  all_told (f ∷ fs) z e =
      ap (λ (r : Run). run_facts r ++ facts_of (runs (map m fs))) (run_anew f z.0 e.0)
      ∙ ap (λ (z : List Fact). alike f.stamp f.offset f.len (visible_by next f.stamp f.deletions) f.deletions ++ z) (all_told fs z.1 e.1)
      ∙ facts_anew f.stamp f.offset f.len f.visible f.deletions (facts_of (runs fs))

  cells_told : (fs : List Fragment) → AllByRecursion IsFilled fs → Tell fs h → Tell (map m fs) next
  cells_told fs l t = all_told fs (late_deletions h lawful fs l t) (by_history h fs l (subst (AllByRecursion (ByHistory h)) (sym t) (told_by_history h (seq h)))) ∙ ap (map told_anew) t ∙ sym (undo_is_told h op lawful good undo)

  -- ---- what stays

  -- a property of what stays
  kept_by : (P : Fragment → Type 0) (f : Fragment) → P (recount w (stamp_of op) f) → P f → P (m f)
  kept_by P f a b = elim (cases_Bool (list_any (concerns f) ts)) [ inl k ↦ rw k a | inr k ↦ rw k b ]

  same_id : (f : Fragment) → (m f).id ≡ f.id
  same_id f = kept_by (λ (g : Fragment). g.id ≡ f.id) f refl refl

  all_filled : (fs : List Fragment) → AllByRecursion IsFilled fs → AllByRecursion IsFilled (map m fs)
  all_filled [] e = tt
  all_filled (f ∷ fs) e = (kept_by IsFilled f e.0 e.0, all_filled fs e.1)

  all_rise : (low : List ℕ) (fs : List Fragment) → Rise low fs → Rise low (map m fs)
  all_rise low [] r = r
  all_rise low (f ∷ fs) r = rw (same_id f) (r.0, r.1, all_rise f.id fs r.2)

  all_entries : (fs : List Fragment) → map entry_of (map m fs) ≡ map entry_of fs
  all_entries [] = refl
  all_entries (f ∷ fs) = rw (kept_by (λ (g : Fragment). entry_of g ≡ entry_of f) f refl refl) (ap (λ (z : List IndexEntry). entry_of f ∷ z) (all_entries fs))

  -- a fragment has the same cells and deletions
  same_deletions : (f : Fragment) → ((m f).stamp ≡ f.stamp) × ((m f).offset ≡ f.offset) × ((m f).len ≡ f.len) × ((m f).deletions ≡ f.deletions)
  same_deletions f = kept_by (λ (g : Fragment). (g.stamp ≡ f.stamp) × (g.offset ≡ f.offset) × (g.len ≡ f.len) × (g.deletions ≡ f.deletions)) f (refl, refl, refl, refl) (refl, refl, refl, refl)

  -- the undos that a fragment's counts come from are seen
  sees_counted : (f : Fragment) → SeesUndos h f → SeesUndos next (recount w (stamp_of op) f)
  sees_counted f s o i c j k = elim (in_append h op o i) [
    | inl n ↦ sees_raise f.max_undos (stamp_of op) (stamp_of o) (s o n c j k)
    | inr e ↦ subst (λ (p : Operation). sees (raise f.max_undos (stamp_of op)) (stamp_of p) ≡ true) (sym e) (raise_sees f.max_undos (stamp_of op))
  ]

  sees_same : (f : Fragment) → HasLaterDeletions f → list_any (concerns f) ts ≡ false → SeesUndos h f → SeesUndos next f
  sees_same f z n s o i c j k = elim (in_append h op o i) [
    | inl l ↦ s o l c j k
    | inr e ↦ absurd (uncounted f z n c c.edit (subst (λ (p : Operation). Member c (counts_of p)) e j) k refl)
  ]

  one_sees : (f : Fragment) → HasLaterDeletions f → SeesUndos h f → SeesUndos next (m f)
  one_sees f z s = elim (cases_Bool (list_any (concerns f) ts)) [ inl k ↦ rw k (sees_counted f s) | inr k ↦ rw k (sees_same f z k s) ]

  all_see : (fs : List Fragment) → AllByRecursion HasLaterDeletions fs → AllByRecursion (SeesUndos h) fs → AllByRecursion (SeesUndos next) (map m fs)
  all_see [] z e = tt
  all_see (f ∷ fs) z e = (one_sees f z.0 e.0, all_see fs z.1 e.1)

  pub undo_stands : (fs : List Fragment) (i : IndexState) (v : List UndoEntry) → Stand fs i v h → Stand (all_anew w (stamp_of op) ts fs) i w next
  undo_stands fs i v s = record {
    cells = cells_told fs s.filled s.cells;
    filled = all_filled fs s.filled;
    ids = all_rise least_digits fs s.ids;
    ascending = s.ascending;
    index = λ e. subst (λ (z : List IndexEntry). Member e i.entries ↔ Member e z) (sym (all_entries fs)) (s.index e);
    numbered = s.numbered;
    deletions = λ l t u k. s.deletions l t u k ∙ sym (runs_same m same_deletions t u k fs);
    counts = now;
    undos = all_see fs (late_deletions h lawful fs s.filled s.cells) s.undos;
  }

pub undo_stood : (h : History) (u : UndoOp) (w : List UndoEntry) (ts : List Lamport) (by : Lamport) (fs gs : List Fragment) (i j : IndexState) → u.stamp ≡ by → Counts (Undo u) ts → Lawful h → answer h [] (Undo u) ≡ Good
    → w ≡ undo_entries (h ++ Undo u ∷ []) → Stand fs i (undo_entries h) h → gs ≡ all_anew w by ts fs → j ≡ i → Stand gs j w (h ++ Undo u ∷ [])
undo_stood h u w ts by fs gs i j e k l g n s p q =
    let a : Stand (all_anew w u.stamp ts fs) i w (h ++ Undo u ∷ []) = undo_stands h (Undo u) w ts l g refl n k fs i (undo_entries h) s in
    let b : Stand (all_anew w by ts fs) i w (h ++ Undo u ∷ []) = subst (λ (t : Lamport). Stand (all_anew w t ts fs) i w (h ++ Undo u ∷ [])) e a in
    let c : Stand gs i w (h ++ Undo u ∷ []) = subst (λ (z : List Fragment). Stand z i w (h ++ Undo u ∷ [])) (sym p) b in
    subst (λ (z : IndexState). Stand gs z w (h ++ Undo u ∷ [])) (sym q) c
