-- Fragments that stand for a history in which an edit is good: there is room for the walk, and an index to begin with.
use Rattle.std.proofs.Common.{◌≡◌, ◌+◌, ◌≤◌, ◌^◌, true, List, [], ◌∷◌, length, ap, ◌∙◌, arith, subst}
use Rattle.std.specs.List.{AllByRecursion}
use Rattle.lamport_clock.specs.declared.stamp.Lamport.{Lamport}
use Rattle.lamport_clock.specs.Versions.{Entries, sees}
use Rattle.locators.specs.Locator.{least_digits}
use Rattle.op_model.specs.declared.operation.Operation.{Operation}
use Rattle.op_model.specs.Operations.{stamp_of, pieces_of, text_total}
use Rattle.op_model.specs.Histories.{History, version}
use Rattle.op_model.specs.Cells.{Cell, seq, cells, cell_at}
use Rattle.op_model.specs.Shown.{new_bytes, IsCell}
use Rattle.op_model.specs.Answers.{answer}
use Rattle.op_model.specs.Answers.Answer.{Good}
use Rattle.op_model.specs.Lawful.{Lawful}
use Rattle.op_model.specs.Sorted.{Member}
use Rattle.op_model.specs.Facts.{alike}
use Rattle.op_model.specs.Walked.{facts_of}
use Rattle.op_model.proofs.order.CellsOnce.{all_cells, cell_in, in_more, seen_cell}
use Rattle.op_model.proofs.shown.FactCells.{cells_in, told_cells}
use Rattle.op_model.proofs.histories.Lawful.{each_of_in}
use Rattle.op_model.proofs.histories.VersionLaws.{sees_own}
use Rattle.op_model.proofs.answers.Good.{lawful_ready, checked_of}
use Rattle.undo_map.specs.declared.entry.UndoEntry.{UndoEntry}
use Rattle.fragments.specs.declared.fragment.Fragment.{Fragment}
use Rattle.fragments.specs.DeletedRuns.{IndexState}
use Rattle.fragments.specs.Stand.{Stand, Tell, IsFilled, runs}
use Rattle.fragments.proofs.Founds.{index_finds_fragments}
use Rattle.fragments.specs.Laws.{cells_len}
use Rattle.fragments.proofs.Cells.{cells_len-told}
use Rattle.remote_edit.specs.Walk.{Fit}
use Rattle.remote_edit.specs.Starts.{AllSeen}
use Rattle.remote_edit.specs.Indexes.{EndsBefore, IsIndexed}
use Rattle.remote_edit.specs.Placing.{MayPlace}
use Rattle.remote_edit.specs.Finds.{IsFound}
use Rattle.remote_edit.proofs.Indexing.{apart_start}
use Rattle.op_model.proofs.answers.SameAnswers.{no_bytes}
use Rattle.op_model.proofs.order.SameSets.{each_in}

all_new : (h : History) (op : Operation) → Lawful h → AllByRecursion (λ (o : Operation). stamp_of o ≡ stamp_of op → ⊥) h → (fs : List Fragment) → AllByRecursion IsFilled fs
    → ((c : Cell) → Member c (cells_in (facts_of (runs fs))) → IsCell h c) → AllByRecursion (EndsBefore (stamp_of op) 0) fs
all_new h op l n [] fl m = tt
all_new h op l n (f ∷ fs) fl m = (
  λ e. (let c = m (cell_at f.stamp f.offset) (cell_in f.len f.stamp f.offset f.visible f.deletions (facts_of (runs fs)) fl.0.0) in
      let z : length (new_bytes h f.stamp) ≡ 0 = ap (λ (t : Lamport). length (new_bytes h t)) e ∙ ap length (no_bytes h (stamp_of op) (λ o i. each_in (λ (p : Operation). stamp_of p ≡ stamp_of op → ⊥) h o n i)) in
      absurd (omega arith)),
  all_new h op l n fs fl.1 (λ c k. m c (in_more c (alike f.stamp f.offset f.len f.visible f.deletions) (facts_of (runs fs)) k)),
)

seen_each : (v : Entries) (h : History) → AllByRecursion (λ (o : Operation). sees v (stamp_of o) ≡ true) h → (fs : List Fragment) → AllByRecursion IsFilled fs
    → ((c : Cell) → Member c (cells_in (facts_of (runs fs))) → IsCell h c) → AllSeen v fs
seen_each v h e [] fl m = tt
seen_each v h e (f ∷ fs) fl m = (
  (let c = m (cell_at f.stamp f.offset) (cell_in f.len f.stamp f.offset f.visible f.deletions (facts_of (runs fs)) fl.0.0) in seen_cell v h f.stamp e (omega (arith, c))),
  seen_each v h e fs fl.1 (λ c k. m c (in_more c (alike f.stamp f.offset f.len f.visible f.deletions) (facts_of (runs fs)) k)),
)

pub all_seen : (h : History) (fs : List Fragment) → Lawful h → Tell fs h → AllByRecursion IsFilled fs → AllSeen (version h) fs
all_seen h fs l t fl = seen_each (version h) h (each_of_in (λ (o : Operation). sees (version h) (stamp_of o) ≡ true) h (sees_own h)) fs fl
    (λ c m. (all_cells h (lawful_ready h l).0.distinct c).0 (subst (Member c) (ap cells_in t ∙ told_cells h (cells (seq h))) m))

-- ---- before the walk

pub indexed_start : (fs : List Fragment) (w : IndexState) (u : List UndoEntry) (h : History) (op : Operation) → Stand fs w u h → Lawful h → answer h [] op ≡ Good → IsIndexed (stamp_of op) 0 fs w
indexed_start fs w u h op s l g = record {
  entered = record {
    ascending = s.ascending;
    entries = s.index;
    apart = apart_start least_digits fs w.entries s.ids s.filled (index_finds_fragments fs w u h l s).0;
    before = all_new h op l (checked_of h op g).0.new fs s.filled
        (λ c m. (all_cells h (lawful_ready h l).0.distinct c).0 (subst (Member c) (ap cells_in s.cells ∙ told_cells h (cells (seq h))) m));
  };
  numbered = s.numbered;
  deletions = s.deletions;
}

pub fit_start : (fs : List Fragment) (w : IndexState) (u : List UndoEntry) (op : Operation) → MayPlace fs w u op → Fit fs × (cells_len fs + text_total (pieces_of op) ≤ 2 ^ 40)
fit_start fs w u op m =
    let b = cells_len-told fs m.history m.stands.cells in
    let r = m.room in
    ((m.stands.filled, (omega arith)), (omega arith))

-- ---- what an index finds

pub found_of : (fs : List Fragment) (w : IndexState) (u : List UndoEntry) (h : History) → Stand fs w u h → Lawful h → IsFound fs w
found_of fs w u h s l = record {
  filled = s.filled;
  ids = s.ids;
  entries = s.index;
  apart = apart_start least_digits fs w.entries s.ids s.filled (index_finds_fragments fs w u h l s).0;
  deletions = s.deletions;
}
