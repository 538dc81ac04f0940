-- What undo counts say of cells, and a fragment after an edit in whose range it lies.
use Rattle.std.specs.Prelude.{Bool, false, not, ◌&&◌, ◌||◌, if◌then◌else◌, List, Option, Some, None}
use Rattle.std.specs.List.{list_all}
use Rattle.lamport_clock.specs.declared.stamp.Lamport.{Lamport}
use Rattle.lamport_clock.specs.Versions.{Entries, sees}
use Rattle.op_model.specs.Facts.{Marking, with_deletion}
use Rattle.undo_map.specs.declared.entry.UndoEntry.{UndoEntry}
use Rattle.undo_map.specs.Counts.{count_of, count_seen, is_odd}
use Rattle.fragments.specs.declared.fragment.Fragment.{Fragment}
use Rattle.fragments.specs.DeletedRuns.{IndexState, delete_run}

-- by undo counts w, a cell of edit u deleted by d was shown at v: u was not undone there, and each of d that v sees was
abbrev pub was_shown : List UndoEntry → Entries → Lamport → List Lamport → Bool
was_shown w v u d = not (is_odd (count_seen w u v)) && list_all (λ t. not (sees v t) || is_odd (count_seen w t v)) d

-- by undo counts w, a cell of edit u deleted by d is shown: u is not undone, and each of d is
abbrev pub is_shown : List UndoEntry → Lamport → List Lamport → Bool
is_shown w u d = not (is_odd (count_of w u)) && list_all (λ t. is_odd (count_of w t)) d

-- a cell after an edit t with version v, in whose range it lies
abbrev pub marking : List UndoEntry → Lamport → Entries → Marking
marking w t v = record {
  visible = λ u b d. if was_shown w v u d then false else b;
  deletions = λ u d. if was_shown w v u d then with_deletion t d else d;
}

-- a fragment in a range of an edit t with version v, which deletes it if it was shown at v
abbrev pub mark : List UndoEntry → Lamport → Entries → Fragment → Fragment
mark w t v f = if was_shown w v f.stamp f.deletions
    then record {
      id = f.id;
      stamp = f.stamp;
      offset = f.offset;
      len = f.len;
      visible = false;
      deletions = with_deletion t f.deletions;
      max_undos = f.max_undos;
    }
    else f

-- a fragment that is passed: marked if undo counts are given
abbrev pub touch : Option (List UndoEntry) → Lamport → Entries → Fragment → Fragment
touch None t v f = f
touch (Some w) t v f = mark w t v f

-- an index after a fragment is marked, or passed
abbrev pub mark_index : List UndoEntry → Lamport → Entries → Fragment → IndexState → IndexState
mark_index w t v f x = if was_shown w v f.stamp f.deletions
    then delete_run t f.stamp f.offset f.len x else x

abbrev pub touch_index : Option (List UndoEntry) → Lamport → Entries → Fragment → IndexState → IndexState
touch_index None t v f x = x
touch_index (Some w) t v f x = mark_index w t v f x
