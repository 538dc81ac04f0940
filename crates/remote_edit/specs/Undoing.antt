-- What is required of an undo among fragments, and the outcome.
use Rattle.std.specs.Prelude.{◌≡◌, ℕ, List, [], ◌∷◌, ◌++◌}
use Rattle.std.specs.List.{AllByRecursion}
use Rattle.lamport_clock.specs.declared.stamp.Lamport.{Lamport}
use Rattle.op_model.specs.declared.operation.UndoOp.{UndoOp}
use Rattle.op_model.specs.declared.operation.Operation.TheVariants.{Undo}
use Rattle.op_model.specs.Domains.{IsProper}
use Rattle.op_model.specs.Histories.{History}
use Rattle.op_model.specs.Answers.{answer}
use Rattle.op_model.specs.Answers.Answer.{Good}
use Rattle.op_model.specs.Lawful.{Lawful}
use Rattle.undo_map.specs.declared.entry.UndoEntry.{UndoEntry}
use Rattle.undo_map.specs.Undos.{undo_entries}
use Rattle.fragments.specs.declared.fragment.Fragment.{Fragment}
use Rattle.fragments.specs.DeletedRuns.{IndexState}
use Rattle.fragments.specs.Stand.{Stand}
use Rattle.remote_edit.specs.declared.moves.Move.{Move}
use Rattle.remote_edit.specs.Carried.{AreMovesOf, KeepCharacters}
use Rattle.remote_edit.specs.declared.placed.Placed.{Placed}
use Rattle.remote_edit.specs.Anew.{Counts, anew, changed_at}
use Rattle.remote_edit.specs.Among.{moves_among}
use Rattle.remote_edit.specs.Concern.{sees_edit}
use Rattle.remote_edit.specs.Finds.{is_place}
use Rattle.remote_edit.specs.UndoMoves.{undo_move}

-- the fragments fs and the index w stand for the lawful history h, in which the undo u with stamp `by` is good; it
-- counts only edits of ts, and us are the counts with it
pub record MayMark (fs : List Fragment) (w : IndexState) (us : List UndoEntry) (by : Lamport)
    (ts : List Lamport) (h : History) (u : UndoOp) : Type 0 where
  pub stamp : u.stamp ≡ by
  pub counts : Counts (Undo u) ts
  pub lawful : Lawful h
  pub good : answer h [] (Undo u) ≡ Good
  pub entries : us ≡ undo_entries (h ++ Undo u ∷ [])
  pub stands : Stand fs w (undo_entries h) h

-- the fragments gs and the index x stand for each such history with the undo
abbrev pub StandWithUndo : List Fragment → IndexState → List UndoEntry → Lamport → List Lamport
    → List Fragment → IndexState → Type 0
StandWithUndo fs w us by ts gs x = (h : History) → (u : UndoOp) → MayMark fs w us by ts h u
    → Stand gs x us (h ++ Undo u ∷ [])

-- the moves take the texts of each such history to those of it with the undo
abbrev pub MoveWithUndo : List Fragment → IndexState → List UndoEntry → Lamport → List Lamport → List Move → Type 0
MoveWithUndo fs w us by ts ms = (h : History) → (u : UndoOp) → MayMark fs w us by ts h u → AreMovesOf ms h (Undo u)

-- if the texts of such a history are UTF-8, whole fragments stay whole and the moves take whole characters
abbrev pub KeepCharactersWithUndo : List Fragment → IndexState → List UndoEntry → Lamport
    → List Lamport → List Fragment → List Move → Type 0
KeepCharactersWithUndo fs w us by ts gs ms = (h : History) → (u : UndoOp)
    → MayMark fs w us by ts h u → AllByRecursion IsProper h → KeepCharacters fs gs ms h (Undo u)

-- ---- for private clauses

-- p has the fragments fs after an undo that changes those at the places ps, the index w, and the moves between both
pub record IsMarked (fs : List Fragment) (w : IndexState) (us : List UndoEntry) (by : Lamport)
    (ts : List Lamport) (ps : List ℕ) (p : Placed) : Type 0 where
  pub fragments : p.fragments.items ≡ changed_at (anew us by ts) (is_place ps) fs
  pub index : p.index ≡ w
  pub moves : p.moves ≡ moves_among (sees_edit by) (undo_move fs) p.fragments.items
