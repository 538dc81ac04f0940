-- What became of the cells of fragments since a version, by undo counts.
use Rattle.std.specs.Prelude.{ℕ, zero, suc, Bool, ◌&&◌, List, [], ◌∷◌, ◌++◌}
use Rattle.lamport_clock.specs.Versions.{Entries, sees}
use Rattle.op_model.specs.Since.{Fate, fate}
use Rattle.undo_map.specs.declared.entry.UndoEntry.{UndoEntry}
use Rattle.fragments.specs.declared.fragment.Fragment.{Fragment}
use Rattle.remote_edit.specs.Marks.{was_shown}

-- the cells of f were in the text that v saw: v sees them, and they were shown there
abbrev pub was_in_text : List UndoEntry → Entries → Fragment → Bool
was_in_text u v f = sees v f.stamp && was_shown u v f.stamp f.deletions

-- n cells of one fate
abbrev pub alike : ℕ → Fate → List Fate
alike zero x = []
alike (suc n) x = x ∷ alike n x

-- the fates of the cells of fragments, in order
abbrev pub fates_of : List UndoEntry → Entries → List Fragment → List Fate
fates_of u v [] = []
fates_of u v (f ∷ fs) = alike f.len (fate (was_in_text u v f) f.visible) ++ fates_of u v fs
