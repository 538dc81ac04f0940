-- What takes a text back to the one that a version saw, where fragments stand for a history.
use Rattle.std.specs.Prelude.{◌≡◌, List, []}
use Rattle.std.specs.List.{AllByRecursion}
use Rattle.lamport_clock.specs.Versions.{Entries}
use Rattle.op_model.specs.Domains.{IsProper}
use Rattle.op_model.specs.Histories.{History}
use Rattle.op_model.specs.Shown.{text, hidden_text}
use Rattle.op_model.specs.Since.{text_at}
use Rattle.op_model.specs.Walked.{IsWhole}
use Rattle.undo_map.specs.declared.entry.UndoEntry.{UndoEntry}
use Rattle.fragments.specs.declared.fragment.Fragment.{Fragment}
use Rattle.fragments.specs.Stand.{runs}
use Rattle.remote_edit.specs.declared.moves.Move.{Move}
use Rattle.remote_edit.specs.Moves.{after_moves, TakeTexts}
use Rattle.remote_edit.specs.Carried.{move_for}
use Rattle.edits_since.specs.Fates.{was_in_text}
use Rattle.edits_since.specs.Telling.{MayTell}

-- what takes the bytes of a fragment back to where v saw them
abbrev pub move_back : List UndoEntry → Entries → Fragment → Move
move_back u v f = move_for f.visible (was_in_text u v f) f.len

-- of each such history, the moves make the text that v saw
abbrev pub AreMovesBack : List Fragment → List UndoEntry → Entries → List Move → Type 0
AreMovesBack fs u v ms = (h : History) → MayTell fs u v h
    → (after_moves ms (text h) (hidden_text h) []).shown ≡ text_at h v

-- of each such history, they take whole characters where the fragments begin and end between characters
abbrev pub TakeCharacters : List Fragment → List UndoEntry → Entries → List Move → Type 0
TakeCharacters fs u v ms = (h : History) → MayTell fs u v h → AllByRecursion IsProper h
    → AllByRecursion (IsWhole h) (runs fs) → TakeTexts ms (text h) (hidden_text h) []
