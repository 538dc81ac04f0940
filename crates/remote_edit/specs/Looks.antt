-- How often an undo looks at a fragment.
use Rattle.std.specs.Prelude.{ℕ, ◌+◌, ◌-◌, nat_le, nat_lt, Bool, ◌&&◌, List, ◌∷◌}
use Rattle.std.specs.List.{count_by, sum_by}
use Rattle.lamport_clock.specs.declared.stamp.Lamport.{Lamport}
use Rattle.lamport_clock.specs.Stamps.{same_stamp}
use Rattle.fragments.specs.declared.fragment.Fragment.{Fragment}
use Rattle.fragments.specs.declared.deleted_run.DeletedRun.{DeletedRun}
use Rattle.fragments.specs.DeletedRuns.{is_run_of, times_in}
use Rattle.remote_edit.specs.Among.{kept_count}
use Rattle.remote_edit.specs.Concern.{sees_edit}

-- the looks that find what an undo of edit t changes among the fragments fs with the runs rs: one, one for each run that
-- t deleted, and one for each fragment that it inserted or deletes
abbrev pub edit_looks : List Fragment → List DeletedRun → Lamport → ℕ
edit_looks fs rs t = 1 + count_by (is_run_of t) rs + sum_by (λ f. times_in t (f.stamp ∷ f.deletions)) fs

-- those of an undo of the edits ts
abbrev pub undo_looks : List Fragment → List DeletedRun → List Lamport → ℕ
undo_looks fs rs ts = sum_by (edit_looks fs rs) ts

-- the number of fragments that have seen the operation t
abbrev pub seen_count : Lamport → List Fragment → ℕ
seen_count t fs = kept_count (sees_edit t) fs

-- ---- for private clauses

-- the fragment is of edit s, and begins after its cell `from`, by its cell `last`
abbrev pub begins_in : Lamport → ℕ → ℕ → Fragment → Bool
begins_in s from last f = same_stamp f.stamp s && nat_lt from f.offset && nat_le f.offset last

-- the looks that find the fragments with the cells from..=last of edit s: one, and one for each that begins after `from`
abbrev pub cell_looks : Lamport → ℕ → ℕ → List Fragment → ℕ
cell_looks s from last fs = 1 + count_by (begins_in s from last) fs

-- those with the cells of a run
abbrev pub run_looks : List Fragment → DeletedRun → ℕ
run_looks fs r = cell_looks r.stamp r.offset (r.offset + (r.len - 1)) fs
