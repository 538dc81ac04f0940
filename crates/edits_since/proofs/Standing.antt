-- What fragments that stand for a history say of its fates.
use Rattle.std.proofs.Common.{◌≡◌, ℕ, zero, suc, Bool, true, false, ◌&&◌, List, [], ◌∷◌, ◌++◌, map, refl, sym, ap, ◌∙◌, subst, inl, inr}
use Rattle.std.specs.List.{AllByRecursion}
use Rattle.lamport_clock.specs.declared.stamp.Lamport.{Lamport}
use Rattle.lamport_clock.specs.Stamps.{same_stamp}
use Rattle.lamport_clock.specs.Versions.{Entries, join_versions, sees}
use Rattle.lamport_clock.proofs.Sees.{sees_joined, sees_within}
use Rattle.lamport_clock.proofs.Later.{same_stamp_refl}
use Rattle.op_model.specs.declared.anchor.TextEdit.{TextEdit}
use Rattle.op_model.specs.Sorted.{Member}
use Rattle.op_model.specs.Operations.{stamp_of}
use Rattle.op_model.specs.Histories.{History, seen_history}
use Rattle.op_model.specs.Cells.{Cell, seq, cells}
use Rattle.op_model.specs.Shown.{count, deleters, shows, visible_by}
use Rattle.op_model.specs.Facts.{Fact, fact, cell_facts, alike as alike_facts, was_visible}
use Rattle.op_model.specs.Walked.{facts_of}
use Rattle.op_model.specs.Lawful.{Lawful, IsClosed}
use Rattle.op_model.specs.Since.{Fate, fate, fates, is_shown_at as was_shown_in, runs as fate_runs, edits_of, since}
use Rattle.op_model.proofs.histories.ClosedVersions.{shown_closed}
use Rattle.op_model.proofs.Elements.{any_member}
use Rattle.op_model.proofs.shown.Counts.{count_seen, undone_seen, are_undone_seen}
use Rattle.op_model.proofs.shown.Visible.{shown_seen}
use Rattle.undo_map.specs.declared.entry.UndoEntry.{UndoEntry}
use Rattle.undo_map.specs.Undos.{undo_entries}
use Rattle.fragments.specs.declared.fragment.Fragment.{Fragment}
use Rattle.fragments.specs.Stand.{runs, SeesUndos}
use Rattle.fragments.specs.Summaries.{summary_of}
use Rattle.fragments.specs.SummaryLaws.{sees_stamps, stamps_seen}
use Rattle.remote_edit.specs.Marks.{was_shown}
use Rattle.remote_edit.proofs.Marks.{was_told}
use Rattle.remote_edit.proofs.OfFacts.{OfFact, of_facts}
use Rattle.edits_since.specs.Fates.{was_in_text, alike, fates_of}
use Rattle.edits_since.specs.Differs.{may_differ}
use Rattle.edits_since.specs.Telling.{MayTell}
use Rattle.edits_since.proofs.Walking.{IsSettled}
use Rattle.edits_since.specs.DifferLaws.{all_within}

-- ---- the fates of a history are those of its fragments

abbrev told_fate : List UndoEntry → Entries → Fact → Fate
told_fate u v q = fate (sees v q.cell.stamp && was_shown u v q.cell.stamp q.deletions) q.visible

-- a cell was in the text that v saw, as the undo counts say
pub was_is : (h : History) (v : Entries) → Lawful h → IsClosed h v → (c : Cell) → was_shown_in h v c ≡ (sees v c.stamp && was_shown (undo_entries h) v c.stamp (deleters h c))
was_is h v l k c = ap (λ (b : Bool). sees v c.stamp && b) (shown_closed h l v k c ∙ was_told h v c.stamp (deleters h c))

told_fates : (h : History) (v : Entries) → Lawful h → IsClosed h v → fates h v ≡ map (told_fate (undo_entries h) v) (cell_facts h)
told_fates h v l k = go (cells (seq h))
  where
    go : (s : List Cell) → map (λ (c : Cell). fate (was_shown_in h v c) (shows h c)) s ≡ map (told_fate (undo_entries h) v) (map (fact h) s)
    go [] = refl
    go (c ∷ s) = ap (λ (b : Bool). fate b (shows h c) ∷ map (λ (d : Cell). fate (was_shown_in h v d) (shows h d)) s) (was_is h v l k c)
        ∙ ap (λ (z : List Fate). told_fate (undo_entries h) v (fact h c) ∷ z) (go s)

alike_fates : (u : List UndoEntry) (v : Entries) (t : Lamport) (k n : ℕ) (b : Bool) (d : List Lamport) (s : List Fact)
    → map (told_fate u v) (alike_facts t k n b d ++ s) ≡ alike n (fate (sees v t && was_shown u v t d) b) ++ map (told_fate u v) s
alike_fates u v t k zero b d s = refl
alike_fates u v t k (suc n) b d s = ap (λ (z : List Fate). fate (sees v t && was_shown u v t d) b ∷ z) (alike_fates u v t (suc k) n b d s)

run_fates : (u : List UndoEntry) (v : Entries) (fs : List Fragment) → map (told_fate u v) (facts_of (runs fs)) ≡ fates_of u v fs
run_fates u v [] = refl
run_fates u v (f ∷ fs) = alike_fates u v f.stamp f.offset f.len f.visible f.deletions (facts_of (runs fs))
    ∙ ap (λ (z : List Fate). alike f.len (fate (was_in_text u v f) f.visible) ++ z) (run_fates u v fs)

fates_are : (fs : List Fragment) (u : List UndoEntry) (v : Entries) (h : History) → MayTell fs u v h → fates h v ≡ fates_of u v fs
fates_are fs u v h m =
    told_fates h v m.lawful m.closed
    ∙ ap (map (told_fate (undo_entries h) v)) (sym m.stands.cells)
    ∙ run_fates (undo_entries h) v fs
    ∙ ap (λ (w : List UndoEntry). fates_of w v fs) (sym m.stands.counts)

-- ---- each fragment has a cell

-- a cell of edit t that is shown or not, and deleted by these
abbrev IsTold : History → Lamport → Bool → List Lamport → Type 0
IsTold h t v d = (c : Cell) × (c.stamp ≡ t) × (v ≡ shows h c) × (d ≡ deleters h c)

abbrev HasCell : History → Fragment → Type 0
HasCell h f = IsTold h f.stamp f.visible f.deletions

all_told : (h : History) (s : List Cell) → AllByRecursion (OfFact (IsTold h)) (map (fact h) s)
all_told h [] = tt
all_told h (c ∷ s) = ((c, refl, refl, refl), all_told h s)

-- ---- a fragment of which a version has seen all was in its text where it is shown now

module _ (h : History) (v : Entries) (f : Fragment) (u : List UndoEntry) (counts : u ≡ undo_entries h) (undos : SeesUndos h f) (unchanged : may_differ v (summary_of f) ≡ false) where
  in_version : (t : Lamport) → sees (summary_of f).greatest t ≡ true → sees v t ≡ true
  in_version t s = sees_within (summary_of f).greatest v t (all_within v (summary_of f) unchanged) s

  sees_edit : (t : Lamport) → Member t (f.stamp ∷ f.deletions) → sees v t ≡ true
  sees_edit t m = in_version t (stamps_seen (f.stamp ∷ f.deletions) (join_versions [] f.max_undos) t (any_member (same_stamp t) (f.stamp ∷ f.deletions) t m (same_stamp_refl t)))

  sees_undo : (t : Lamport) → sees f.max_undos t ≡ true → sees v t ≡ true
  sees_undo t s = in_version t (sees_stamps (f.stamp ∷ f.deletions) (join_versions [] f.max_undos) t ((sees_joined [] f.max_undos t).1 s))

  counts_same : (t : Lamport) → Member t (f.stamp ∷ f.deletions) → count (seen_history h v) t ≡ count h t
  counts_same t m = count_seen h v t (λ op i c k e. sees_undo (stamp_of op) (undos op i c k (subst (λ (s : Lamport). Member s (f.stamp ∷ f.deletions)) (sym e) m)))

  was_now : was_visible (seen_history h v) v f.stamp f.deletions ≡ visible_by h f.stamp f.deletions
  was_now = rw (undone_seen h v f.stamp (counts_same f.stamp (inl refl)), are_undone_seen h v f.deletions (λ t m. (sees_edit t (inr m), counts_same t (inr m)))) refl

  by_counts : HasCell h f → f.visible ≡ visible_by h f.stamp f.deletions
  by_counts k = k.2 ∙ shown_seen h k.0 ∙ ap (λ (t : Lamport). visible_by h t (deleters h k.0)) k.1 ∙ ap (visible_by h f.stamp) (sym k.3)

  same_then : HasCell h f → was_in_text u v f ≡ f.visible
  same_then k =
      ap (λ (w : List UndoEntry). sees v f.stamp && was_shown w v f.stamp f.deletions) counts
      ∙ ap (λ (b : Bool). b && was_shown (undo_entries h) v f.stamp f.deletions) (sees_edit f.stamp (inl refl))
      ∙ sym (was_told h v f.stamp f.deletions) ∙ was_now ∙ sym (by_counts k)

all_settled : (h : History) (v : Entries) (u : List UndoEntry) (fs : List Fragment) → u ≡ undo_entries h → AllByRecursion (HasCell h) fs → AllByRecursion (SeesUndos h) fs → AllByRecursion (IsSettled u v) fs
all_settled h v u [] e c s = tt
all_settled h v u (f ∷ fs) e c s = ((λ n. same_then h v f u e s.0 n c.0), all_settled h v u fs e c.1 s.1)

pub settled : (fs : List Fragment) (u : List UndoEntry) (v : Entries) (h : History) → MayTell fs u v h → AllByRecursion (IsSettled u v) fs
settled fs u v h m = all_settled h v u fs m.stands.counts (of_facts (IsTold h) fs m.stands.filled (subst (AllByRecursion (OfFact (IsTold h))) (sym m.stands.cells) (all_told h (cells (seq h))))) m.stands.undos

pub since_is : (fs : List Fragment) (u : List UndoEntry) (v : Entries) (es : List TextEdit) → (AllByRecursion (IsSettled u v) fs → es ≡ edits_of 0 0 (fate_runs (fates_of u v fs)))
    → (h : History) → MayTell fs u v h → es ≡ since h v
unfolding since
since_is fs u v es f h m = f (settled fs u v h m) ∙ ap (λ (s : List Fate). edits_of 0 0 (fate_runs s)) (sym (fates_are fs u v h m))
