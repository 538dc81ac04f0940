-- Laws of fragments that stand for a history.
use Rattle.std.specs.Prelude.{◌≡◌, ◌⊎◌, ◌↔◌, ℕ, ◌+◌, ◌<◌, ◌^◌, true, List, [], ◌∷◌, length, Some, None, if◌then◌else◌}
use Rattle.std.specs.List.{AllByRecursion}
use Rattle.lamport_clock.specs.declared.stamp.Lamport.{Lamport}
use Rattle.lamport_clock.specs.Versions.{Entries, sees}
use Rattle.tree_cursor.specs.Places.{place_behind}
use Rattle.locators.specs.Locator.{IsLess, EndsAboveZero, least_digits, greatest_digits}
use Rattle.op_model.specs.Sorted.{Member}
use Rattle.op_model.specs.Histories.{History, base}
use Rattle.op_model.specs.Lawful.{Lawful}
use Rattle.op_model.specs.Walked.{kept_len}
use Rattle.undo_map.specs.declared.entry.UndoEntry.{UndoEntry}
use Rattle.fragments.specs.declared.fragment.Fragment.{Fragment}
use Rattle.fragments.specs.declared.index_entry.IndexEntry.{IndexEntry}
use Rattle.fragments.specs.Index.{key_of, IsAscending, with_entry, id_for}
use Rattle.fragments.specs.DeletedRuns.{IndexState}
use Rattle.fragments.specs.Stand.{Stand, entry_of, runs}
use Rattle.fragments.specs.Summaries.{summary_of}
use Rattle.fragments.specs.SeenPlaces.{move_full, move_visible, move_at}

-- if fragments and an index stand for a lawful history, the index finds the fragment of each cell, and nothing for an
-- edit without fragments
abbrev pub IndexFindsFragments : Type 0
IndexFindsFragments = (fs : List Fragment) → (w : IndexState) → (u : List UndoEntry)
    → (h : History) → Lawful h → Stand fs w u h
    → ((f : Fragment) → Member f fs → (j : ℕ) → j < f.len
    → id_for f.stamp (f.offset + j) w.entries ≡ Some f.id)
    × ((t : Lamport) → AllByRecursion (λ (f : Fragment). f.stamp ≡ t → ⊥) fs → (o : ℕ)
    → id_for t o w.entries ≡ None)

-- one fragment with all cells of the base
abbrev pub whole_base : List ℕ → List ℕ → Fragment
whole_base id t = record {
  id = id;
  stamp = record { value = 1; replica = 0 };
  offset = 0;
  len = length t;
  visible = true;
  deletions = [];
  max_undos = [];
}

-- the index of one fragment that nothing deletes
abbrev pub index_of_one : Fragment → IndexState
index_of_one f = record { entries = entry_of f ∷ []; deletions = [] }

abbrev pub no_index : IndexState
no_index = record { entries = []; deletions = [] }

-- one fragment stands for a base with a text, and no fragment for one without
abbrev pub BaseStands : Type 0
BaseStands = ((id : List ℕ) → (t : List ℕ) → 0 < length t → length t < 2 ^ 64
    → IsLess least_digits id → IsLess id greatest_digits → EndsAboveZero id
    → Stand (whole_base id t ∷ []) (index_of_one (whole_base id t)) [] (base t ∷ []))
    × Stand [] no_index [] (base [] ∷ [])

-- an entry replaces the one with its key, and no other
abbrev pub EntryTakesItsPlace : Type 0
EntryTakesItsPlace = (x : IndexEntry) → (w : List IndexEntry) → IsAscending w
    → IsAscending (with_entry x w)
    × ((e : IndexEntry) → Member e (with_entry x w)
    ↔ ((e ≡ x) ⊎ (Member e w × (key_of e ≡ key_of x → ⊥))))

-- the number of cells of fragments
abbrev pub cells_len : List Fragment → ℕ
cells_len [] = 0
cells_len (f ∷ fs) = f.len + cells_len fs

-- the number of shown cells
abbrev pub shown_len : List Fragment → ℕ
shown_len [] = 0
shown_len (f ∷ fs) = if f.visible then f.len + shown_len fs else shown_len fs

-- the places after fragments count their cells: all, those that are shown, and those of stamps that a version sees
abbrev pub PlacesCountCells : Type 0
PlacesCountCells = (fs : List Fragment) → (n : ℕ)
    → (place_behind move_full summary_of n fs ≡ n + cells_len fs)
    × (place_behind move_visible summary_of n fs ≡ n + shown_len fs)
    × ((v : Entries) → place_behind move_at summary_of (v, n) fs ≡ (v, n + kept_len (sees v) (runs fs)))
