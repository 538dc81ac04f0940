-- The runs of cells that edits deleted, and what contracts see of an index.
use Rattle.std.specs.Prelude.{◌≡◌, ℕ, ◌+◌, ◌^◌, ◌<◌, nat_le, nat_lt, Bool, true, ◌&&◌, if◌then◌else◌, List, [], ◌∷◌, length, Option, Some, None}
use Rattle.std.specs.List.{AllByRecursion}
use Rattle.sum_tree.specs.Keyed.{Ascending, insert_item}
use Rattle.tree_cursor.specs.Keys.{cmp_less}
use Rattle.lamport_clock.specs.declared.stamp.Lamport.{Lamport}
use Rattle.lamport_clock.specs.Stamps.{same_stamp}
use Rattle.fragments.specs.declared.index_entry.IndexKey.{IndexKey}
use Rattle.fragments.specs.declared.index_entry.IndexEntry.{IndexEntry}
use Rattle.fragments.specs.declared.deleted_run.DeletedRun.{DeletedRun}
use Rattle.fragments.specs.declared.fragment.Fragment.{Fragment}
use Rattle.fragments.specs.Index.{key_cmp, with_entry}

abbrev pub run_key : DeletedRun → IndexKey
run_key r = record { stamp = r.edit; offset = record { 0 = r.number } }

-- the keys ascend, and all numbers are less than that of the runs
pub record AreNumbered (rs : List DeletedRun) : Type 0 where
  pub ascending : Ascending key_cmp run_key rs
  pub below : AllByRecursion (λ (r : DeletedRun). r.number < length rs) rs

-- runs with one more, of n cells of edit s from k on that edit t deleted; its number is that of the runs before
abbrev pub with_run : Lamport → Lamport → ℕ → ℕ → List DeletedRun → List DeletedRun
with_run t s k n rs = insert_item key_cmp run_key
    (record { edit = t; number = length rs; stamp = s; offset = k; len = n }) rs

-- fewer than 2^40 runs, the most that an index keeps
abbrev pub few_runs : List DeletedRun → Bool
few_runs rs = nat_lt (length rs) (2 ^ 40)

-- runs with one more, if an index keeps one more
abbrev pub keep_run : Lamport → Lamport → ℕ → ℕ → List DeletedRun → List DeletedRun
keep_run t s k n rs = if few_runs rs then with_run t s k n rs else rs

-- edit t deleted the run
abbrev pub is_run_of : Lamport → DeletedRun → Bool
is_run_of t r = same_stamp r.edit t

-- ---- indexes

-- the entries of fragments, and the runs of cells that edits deleted
pub record IndexState : Type 0 where
  pub entries : List IndexEntry
  pub deletions : List DeletedRun

abbrev pub with_insertion : IndexEntry → IndexState → IndexState
with_insertion e x = record { entries = with_entry e x.entries; deletions = x.deletions }

abbrev pub delete_run : Lamport → Lamport → ℕ → ℕ → IndexState → IndexState
delete_run t s k n x = record { entries = x.entries; deletions = keep_run t s k n x.deletions }

-- ---- what runs say of cells

-- cell k of edit s is in a run that edit t deleted
abbrev pub has_deleted : Lamport → Lamport → ℕ → DeletedRun → Bool
has_deleted t s k r = same_stamp r.edit t && same_stamp r.stamp s && nat_le r.offset k && nat_lt k (r.offset + r.len)

-- the number of these runs
abbrev pub run_count : Lamport → Lamport → ℕ → List DeletedRun → ℕ
run_count t s k [] = 0
run_count t s k (r ∷ rs) = (if has_deleted t s k r then 1 else 0) + run_count t s k rs

-- a fragment has cell k of edit s
abbrev pub has_cell : Lamport → ℕ → Fragment → Bool
has_cell s k f = same_stamp f.stamp s && nat_le f.offset k && nat_lt k (f.offset + f.len)

-- how often t is among stamps
abbrev pub times_in : Lamport → List Lamport → ℕ
times_in t [] = 0
times_in t (u ∷ d) = (if same_stamp u t then 1 else 0) + times_in t d

-- how often edit t deletes cell k of edit s in fragments: once, or not at all
abbrev pub deletion_count : Lamport → Lamport → ℕ → List Fragment → ℕ
deletion_count t s k [] = 0
deletion_count t s k (f ∷ fs) = (if has_cell s k f then times_in t f.deletions else 0)
    + deletion_count t s k fs

-- if there are fewer runs than an index keeps, each cell is in one run of each edit that deletes it, and in no other
abbrev pub AreRunsOf : List Fragment → List DeletedRun → Type 0
AreRunsOf fs rs = few_runs rs ≡ true → (t s : Lamport) → (k : ℕ) → run_count t s k rs ≡ deletion_count t s k fs

-- ---- for private clauses

-- edit t deleted the run, whose number is less than n
abbrev pub is_below : Lamport → ℕ → DeletedRun → Bool
is_below t n r = same_stamp r.edit t && nat_lt r.number n

-- the first run whose key is not less than k
abbrev pub run_from : IndexKey → List DeletedRun → Option DeletedRun
run_from k [] = None
run_from k (r ∷ rs) = if cmp_less key_cmp (run_key r) k then run_from k rs else Some r
