-- Fragments as they were before an edit: without its cells, and without its deletions.
use Rattle.std.specs.Prelude.{◌≡◌, ℕ, ◌+◌, true, false, not, if◌then◌else◌, List, [], ◌∷◌}
use Rattle.std.specs.List.{filter, list_any}
use Rattle.lamport_clock.specs.declared.stamp.Lamport.{Lamport}
use Rattle.lamport_clock.specs.Stamps.{same_stamp}
use Rattle.op_model.specs.Walked.{Run}
use Rattle.undo_map.specs.declared.entry.UndoEntry.{UndoEntry}
use Rattle.fragments.specs.declared.fragment.Fragment.{Fragment}
use Rattle.fragments.specs.Stand.{runs}
use Rattle.remote_edit.specs.declared.moves.Move.{Move}
use Rattle.remote_edit.specs.declared.moves.Move.TheVariants.{Insert}
use Rattle.remote_edit.specs.Marks.{is_shown}
use Rattle.remote_edit.specs.Moves.{with_move}
use Rattle.remote_edit.specs.Carried.{move_for}

-- stamps without that of edit t
abbrev pub without : Lamport → List Lamport → List Lamport
without t d = filter (λ s. not (same_stamp t s)) d

-- a fragment without edit t's deletion, shown or hidden by undo counts w
abbrev pub without_deletion : List UndoEntry → Lamport → Fragment → Fragment
without_deletion w t f = record {
  id = f.id;
  stamp = f.stamp;
  offset = f.offset;
  len = f.len;
  visible = is_shown w f.stamp (without t f.deletions);
  deletions = without t f.deletions;
  max_undos = f.max_undos;
}

-- fragments before edit t
abbrev pub before_edit : List UndoEntry → Lamport → List Fragment → List Fragment
before_edit w t [] = []
before_edit w t (f ∷ fs) = if same_stamp t f.stamp then before_edit w t fs
    else without_deletion w t f ∷ before_edit w t fs

-- the move of a fragment's bytes in edit t
abbrev pub edit_move : List UndoEntry → Lamport → Fragment → Move
edit_move w t f = if same_stamp t f.stamp then Insert f.len
    else move_for (is_shown w f.stamp (without t f.deletions)) f.visible f.len

-- a fragment is shown exactly if undo counts w show it
abbrev pub IsByCounts : List UndoEntry → Fragment → Type 0
IsByCounts w f = f.visible ≡ is_shown w f.stamp f.deletions

-- the runs of edit t
abbrev pub runs_by : Lamport → List Run → List Run
runs_by t rs = filter (λ r. same_stamp t r.stamp) rs

-- shown runs that have the cells k..m in order
abbrev pub InOrder : ℕ → ℕ → List Run → Type 0
InOrder k m [] = k ≡ m
InOrder k m (r ∷ rs) = (r.visible ≡ true) × (r.offset ≡ k) × InOrder (k + r.len) m rs

-- the cells of edit t in fragments are shown, and are k..m in order
abbrev pub Brings : Lamport → ℕ → ℕ → List Fragment → Type 0
Brings t k m fs = InOrder k m (runs_by t (runs fs))

-- edit t neither inserted nor deletes a fragment's cells, and undo counts w show it as it is
pub record IsUntouched (w : List UndoEntry) (t : Lamport) (f : Fragment) : Type 0 where
  pub other : same_stamp t f.stamp ≡ false
  pub free : list_any (same_stamp t) f.deletions ≡ false
  pub shown : IsByCounts w f

-- the moves ms, then those of the bytes of fragments in edit t, one by one
abbrev pub each_move : List UndoEntry → Lamport → List Move → List Fragment → List Move
each_move w t ms [] = ms
each_move w t ms (f ∷ fs) = each_move w t (with_move ms (edit_move w t f)) fs
