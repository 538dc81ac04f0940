-- The moves of an undo, read from the fragments before it and after it.
use Rattle.std.specs.Prelude.{Bool, List, Option, Some, None}
use Rattle.std.specs.List.{slice_get}
use Rattle.fragments.specs.declared.fragment.Fragment.{Fragment}
use Rattle.remote_edit.specs.declared.moves.Move.{Move}
use Rattle.remote_edit.specs.Carried.{move_for}
use Rattle.remote_edit.specs.Finds.{place_from}

-- whether a fragment is shown, or what stands for it if there is none
abbrev pub visible_or : Bool → Option Fragment → Bool
visible_or b None = b
visible_or b (Some f) = f.visible

-- whether a fragment was shown among the fragments fs
abbrev pub was_visible : List Fragment → Fragment → Bool
was_visible fs f = visible_or f.visible (slice_get fs (place_from f.id fs))

-- the move of a fragment's bytes in an undo of which fs were the fragments before
abbrev pub undo_move : List Fragment → Fragment → Move
undo_move fs f = move_for (was_visible fs f) f.visible f.len
