-- An index of fragments among which an edit is placed.
use Rattle.std.specs.Prelude.{◌≡◌, ◌⊎◌, ℕ, ◌+◌, ◌≤◌, List}
use Rattle.std.specs.List.{AllByRecursion}
use Rattle.lamport_clock.specs.declared.stamp.Lamport.{Lamport}
use Rattle.op_model.specs.Sorted.{EachPair}
use Rattle.fragments.specs.declared.fragment.Fragment.{Fragment}
use Rattle.fragments.specs.declared.index_entry.IndexEntry.{IndexEntry}
use Rattle.fragments.specs.Index.{IsAscending}
use Rattle.fragments.specs.DeletedRuns.{IndexState, AreNumbered, AreRunsOf}
use Rattle.fragments.specs.Stand.{IsIndexOf}

-- no cell is in both
abbrev pub IsApart : Fragment → Fragment → Type 0
IsApart f g = f.stamp ≡ g.stamp → (f.offset + f.len ≤ g.offset) ⊎ (g.offset + g.len ≤ f.offset)

-- all cells of edit t are before its cell k
abbrev pub EndsBefore : Lamport → ℕ → Fragment → Type 0
EndsBefore t k f = f.stamp ≡ t → f.offset + f.len ≤ k

-- w has the entries of fragments that share no cell, of which those of edit t have cells before its cell k
pub record AreEntered (t : Lamport) (k : ℕ) (fs : List Fragment) (w : List IndexEntry) : Type 0 where
  pub ascending : IsAscending w
  pub entries : IsIndexOf fs w
  pub apart : EachPair IsApart fs
  pub before : AllByRecursion (EndsBefore t k) fs

-- the index x has these entries, and the runs of cells that edits deleted
pub record IsIndexed (t : Lamport) (k : ℕ) (fs : List Fragment) (x : IndexState) : Type 0 where
  pub entered : AreEntered t k fs x.entries
  pub numbered : AreNumbered x.deletions
  pub deletions : AreRunsOf fs x.deletions
