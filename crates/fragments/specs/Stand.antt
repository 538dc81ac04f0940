-- When fragments, an index of them and undo counts stand for a history.
use Rattle.std.specs.Prelude.{◌≡◌, ◌↔◌, ℕ, ◌+◌, ◌<◌, ◌^◌, true, List, [], ◌∷◌, map}
use Rattle.std.specs.List.{AllByRecursion}
use Rattle.lamport_clock.specs.Versions.{sees}
use Rattle.locators.specs.Locator.{IsLess, EndsAboveZero, least_digits, greatest_digits}
use Rattle.op_model.specs.declared.operation.Operation.{Operation}
use Rattle.op_model.specs.declared.operation.UndoCount.{UndoCount}
use Rattle.op_model.specs.Operations.{stamp_of, counts_of}
use Rattle.op_model.specs.Sorted.{Member}
use Rattle.op_model.specs.Histories.{History, In}
use Rattle.op_model.specs.Facts.{cell_facts}
use Rattle.op_model.specs.Walked.{Run, facts_of}
use Rattle.undo_map.specs.declared.entry.UndoEntry.{UndoEntry}
use Rattle.undo_map.specs.Undos.{undo_entries}
use Rattle.fragments.specs.declared.fragment.Fragment.{Fragment}
use Rattle.fragments.specs.declared.index_entry.IndexEntry.{IndexEntry}
use Rattle.fragments.specs.Index.{IsAscending}
use Rattle.fragments.specs.DeletedRuns.{IndexState, AreNumbered, AreRunsOf}

-- the cells of a fragment
abbrev pub run_of : Fragment → Run
run_of f = record { stamp = f.stamp; offset = f.offset; len = f.len; visible = f.visible; deletions = f.deletions }

abbrev pub runs : List Fragment → List Run
runs fs = map run_of fs

-- the fragments have the cells of h in order, hidden ones too, each with whether it is shown and which edits delete it
abbrev pub Tell : List Fragment → History → Type 0
Tell fs h = facts_of (runs fs) ≡ cell_facts h

-- there is a cell, and the numbers of the cells fit in a u64
abbrev pub IsFilled : Fragment → Type 0
IsFilled f = (0 < f.len) × (f.offset + f.len < 2 ^ 64)

-- the ids ascend strictly, above low and below the greatest, and none ends in 0
abbrev pub Rise : List ℕ → List Fragment → Type 0
Rise low [] = IsLess low greatest_digits
Rise low (f ∷ fs) = IsLess low f.id × EndsAboveZero f.id × Rise f.id fs

-- the entry of a fragment
abbrev pub entry_of : Fragment → IndexEntry
entry_of f = record { stamp = f.stamp; offset = f.offset; id = f.id }

-- w has the entry of each fragment, and no other
abbrev pub IsIndexOf : List Fragment → List IndexEntry → Type 0
IsIndexOf fs w = (e : IndexEntry) → Member e w ↔ Member e (map entry_of fs)

-- max_undos sees every undo in h that has a count for the fragment's edit or for one of its deletions
abbrev pub SeesUndos : History → Fragment → Type 0
SeesUndos h f = (op : Operation) → In h op → (c : UndoCount) → Member c (counts_of op)
    → Member c.edit (f.stamp ∷ f.deletions) → sees f.max_undos (stamp_of op) ≡ true

-- The fragments fs, the index w and the undo counts u stand for the history h.
pub record Stand (fs : List Fragment) (w : IndexState) (u : List UndoEntry) (h : History) : Type 0 where
  pub cells : Tell fs h
  pub filled : AllByRecursion IsFilled fs
  pub ids : Rise least_digits fs
  pub ascending : IsAscending w.entries
  pub index : IsIndexOf fs w.entries
  pub numbered : AreNumbered w.deletions
  pub deletions : AreRunsOf fs w.deletions
  pub counts : u ≡ undo_entries h
  pub undos : AllByRecursion (SeesUndos h) fs
