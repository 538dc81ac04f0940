-- The fragments that an index finds: those whose cells an edit inserted or deleted.
use Rattle.std.specs.Prelude.{◌≡◌, ℕ, ◌+◌, ◌<◌, ◌≤◌, ◌==◌, Bool, true, not, List, Option, Some, None}
use Rattle.std.specs.List.{AllByRecursion, list_any, slice_get}
use Rattle.lamport_clock.specs.declared.stamp.Lamport.{Lamport}
use Rattle.locators.specs.Locator.{least_digits}
use Rattle.op_model.specs.Sorted.{EachPair, Member}
use Rattle.tree_cursor.specs.Keys.{key_less}
use Rattle.tree_cursor.specs.Places.{filter_count}
use Rattle.fragments.specs.declared.fragment.Fragment.{Fragment}
use Rattle.fragments.specs.declared.fragment.FragmentSummary.{FragmentSummary}
use Rattle.fragments.specs.declared.index_entry.IndexEntry.{IndexEntry}
use Rattle.fragments.specs.declared.deleted_run.DeletedRun.{DeletedRun}
use Rattle.fragments.specs.Index.{id_for}
use Rattle.fragments.specs.DeletedRuns.{IndexState, AreRunsOf}
use Rattle.fragments.specs.Stand.{IsFilled, Rise, IsIndexOf}
use Rattle.fragments.specs.Summaries.{id_less, summary_of}
use Rattle.remote_edit.specs.Anew.{concerns}
use Rattle.remote_edit.specs.Indexes.{IsApart}

-- a sum has a fragment whose id is not less than i
abbrev pub is_from : List ℕ → FragmentSummary → Bool
is_from i s = not (key_less id_less s.last_id (Some i))

-- the index of the first fragment whose id is not less than i
abbrev pub place_from : List ℕ → List Fragment → ℕ
place_from i fs = filter_count (is_from i) summary_of fs

-- the index x finds the fragments fs and what is deleted of them: the ids ascend, there is an entry for each and no
-- other, and the runs are those of the cells that edits delete
pub record IsFound (fs : List Fragment) (x : IndexState) : Type 0 where
  pub filled : AllByRecursion IsFilled fs
  pub ids : Rise least_digits fs
  pub entries : IsIndexOf fs x.entries
  pub apart : EachPair IsApart fs
  pub deletions : AreRunsOf fs x.deletions

-- i is one of the places
abbrev pub is_place : List ℕ → ℕ → Bool
is_place ps i = list_any (λ p. p == i) ps

-- ---- for private clauses

-- the place of a fragment, and the offset of its first cell
abbrev pub place_at : ℕ → Option Fragment → Option (ℕ × ℕ)
place_at i None = None
place_at i (Some f) = Some (i, f.offset)

abbrev pub place_of_id : Option (List ℕ) → List Fragment → Option (ℕ × ℕ)
place_of_id None fs = None
place_of_id (Some i) fs = place_at (place_from i fs) (slice_get fs (place_from i fs))

-- those of the fragment that an index has for cell k of edit s
abbrev pub place_of : Lamport → ℕ → List IndexEntry → List Fragment → Option (ℕ × ℕ)
place_of s k w fs = place_of_id (id_for s k w) fs

-- among ps are all those of ps2
abbrev pub HaveAll : List ℕ → List ℕ → Type 0
HaveAll ps ps2 = (i : ℕ) → Member i ps → Member i ps2

-- among ps are the places of all fragments with one of the cells from..=last of edit s
abbrev pub HaveCells : List Fragment → Lamport → ℕ → ℕ → List ℕ → Type 0
HaveCells fs s from last ps = (i k : ℕ) (f : Fragment) → slice_get fs i ≡ Some f → f.stamp ≡ s
    → from ≤ k → k ≤ last → f.offset ≤ k → k < f.offset + f.len → Member i ps

-- those of all fragments with cells of a run
abbrev pub HaveRun : List Fragment → DeletedRun → List ℕ → Type 0
HaveRun fs r ps = (i k : ℕ) (f : Fragment) → slice_get fs i ≡ Some f → f.stamp ≡ r.stamp
    → r.offset ≤ k → k < r.offset + r.len → f.offset ≤ k → k < f.offset + f.len → Member i ps

-- those of all fragments that edit t concerns
abbrev pub HaveConcerned : List Fragment → Lamport → List ℕ → Type 0
HaveConcerned fs t ps = (i : ℕ) (f : Fragment) → slice_get fs i ≡ Some f → concerns f t ≡ true → Member i ps
