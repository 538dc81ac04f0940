-- Fragments after an undo.
use Rattle.std.specs.Prelude.{ℕ, suc, Bool, ◌&&◌, nat_le, if◌then◌else◌, List, [], ◌∷◌, map}
use Rattle.std.specs.List.{list_any}
use Rattle.lamport_clock.specs.declared.stamp.Lamport.{Lamport}
use Rattle.lamport_clock.specs.Stamps.{same_stamp}
use Rattle.lamport_clock.specs.Versions.{raise}
use Rattle.op_model.specs.declared.operation.Operation.{Operation}
use Rattle.op_model.specs.declared.operation.UndoCount.{UndoCount}
use Rattle.op_model.specs.Operations.{counts_of}
use Rattle.op_model.specs.Sorted.{Member}
use Rattle.undo_map.specs.declared.entry.UndoEntry.{UndoEntry}
use Rattle.fragments.specs.declared.fragment.Fragment.{Fragment}
use Rattle.remote_edit.specs.Marks.{is_shown}

-- edit t, no earlier than the cells of the fragment, inserted them or deletes them
abbrev pub concerns : Fragment → Lamport → Bool
concerns f t = nat_le f.stamp.value t.value && list_any (same_stamp t) (f.stamp ∷ f.deletions)

-- a fragment shown or hidden by undo counts w, of which the undo `by` set some
abbrev pub recount : List UndoEntry → Lamport → Fragment → Fragment
recount w by f = record {
  id = f.id;
  stamp = f.stamp;
  offset = f.offset;
  len = f.len;
  visible = is_shown w f.stamp f.deletions;
  deletions = f.deletions;
  max_undos = raise f.max_undos by;
}

-- a fragment after an undo of the edits ts
abbrev pub anew : List UndoEntry → Lamport → List Lamport → Fragment → Fragment
anew w by ts f = if list_any (concerns f) ts then recount w by f else f

-- all fragments after an undo of the edits ts
abbrev pub all_anew : List UndoEntry → Lamport → List Lamport → List Fragment → List Fragment
all_anew w by ts fs = map (anew w by ts) fs

-- the edits of an undo are among ts
abbrev pub Counts : Operation → List Lamport → Type 0
Counts op ts = (c : UndoCount) → Member c (counts_of op) → Member c.edit ts

-- fragments of which those at some places are changed
abbrev pub changed_at : (Fragment → Fragment) → (ℕ → Bool) → List Fragment → List Fragment
changed_at m at [] = []
changed_at m at (f ∷ fs) = (if at 0 then m f else f) ∷ changed_at m (λ i. at (suc i)) fs
