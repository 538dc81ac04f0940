-- When an edit may be placed, and the outcome.
use Rattle.std.specs.Prelude.{◌≡◌, ◌+◌, ◌≤◌, ◌^◌, List, [], ◌∷◌, ◌++◌, length, None}
use Rattle.std.specs.List.{AllByRecursion}
use Rattle.lamport_clock.specs.declared.stamp.Lamport.{Lamport}
use Rattle.lamport_clock.specs.Versions.{Entries}
use Rattle.op_model.specs.declared.operation.Operation.{Operation}
use Rattle.op_model.specs.declared.operation.Piece.{Piece}
use Rattle.op_model.specs.declared.limits.Limits.{Limits as LimitsType}
use Rattle.op_model.specs.Domains.{IsProper, IsReplica}
use Rattle.op_model.specs.Made.{local_edit, local_edit_fault}
use Rattle.op_model.specs.Operations.{pieces_of, text_total}
use Rattle.op_model.specs.Histories.{History, version, clock}
use Rattle.op_model.specs.Shown.{full}
use Rattle.op_model.specs.Lawful.{Lawful}
use Rattle.op_model.specs.Answers.{answer}
use Rattle.op_model.specs.Answers.Answer.{Good}
use Rattle.undo_map.specs.declared.entry.UndoEntry.{UndoEntry}
use Rattle.fragments.specs.declared.fragment.Fragment.{Fragment}
use Rattle.fragments.specs.DeletedRuns.{IndexState}
use Rattle.fragments.specs.Stand.{Stand}
use Rattle.remote_edit.specs.declared.moves.Move.{Move}
use Rattle.remote_edit.specs.Carried.{AreMovesOf, KeepCharacters}

-- the fragments, the index and the undo counts stand for a lawful history in which the edit is good, and which has with
-- the edit at most 2^40 bytes
pub record MayPlace (fs : List Fragment) (w : IndexState) (u : List UndoEntry) (op : Operation) : Type 0 where
  pub history : History
  pub stands : Stand fs w u history
  pub lawful : Lawful history
  pub good : answer history [] op ≡ Good
  pub room : length (full history) + text_total (pieces_of op) ≤ 2 ^ 40

-- for each lawful history in which the operation is good and for which the old ones stand, the new ones stand for it
-- with the operation
abbrev pub ArePlaced : List Fragment → IndexState → List UndoEntry → Operation → List Fragment
    → IndexState → Type 0
ArePlaced fs w u op gs v = (h : History) → Stand fs w u h → Lawful h → answer h [] op ≡ Good
    → Stand gs v u (h ++ op ∷ [])

-- for each such history, the moves take its texts to those of it with the operation
abbrev pub MoveWithEdit : List Fragment → IndexState → List UndoEntry → Operation → List Move → Type 0
MoveWithEdit fs w u op ms = (h : History) → Stand fs w u h → Lawful h → answer h [] op ≡ Good → AreMovesOf ms h op

-- for each such history, if the texts are UTF-8, whole fragments stay whole and the moves take whole characters
abbrev pub KeepCharactersWithEdit : List Fragment → IndexState → List UndoEntry → Operation
    → List Fragment → List Move → Type 0
KeepCharactersWithEdit fs w u op gs ms = (h : History) → Stand fs w u h → Lawful h
    → AllByRecursion IsProper h → IsProper op → answer h [] op ≡ Good → KeepCharacters fs gs ms h op

-- the fragments, the index and the undo counts stand for a lawful history, the stamp t and the version v are those of
-- an operation that a replica makes there, the changes have no fault, and the history with them has at most 2^40 bytes
pub record MayMake (fs : List Fragment) (w : IndexState) (u : List UndoEntry) (t : Lamport)
    (v : Entries) (changes : List Piece) : Type 0 where
  pub history : History
  pub stands : Stand fs w u history
  pub lawful : Lawful history
  pub proper : AllByRecursion IsProper history
  pub replica : IsReplica t.replica
  pub value : t.value ≡ clock history
  pub sees : v ≡ version history
  pub limits : LimitsType
  pub faultless : local_edit_fault limits history changes ≡ None
  pub room : length (full history) + text_total changes ≤ 2 ^ 40

-- for each history that the fragments stand for, and in which the stamp t and the version v are those of an operation
-- that a replica makes, the operation is that one
abbrev pub IsMade : List Fragment → IndexState → List UndoEntry → Lamport → Entries
    → List Piece → Operation → Type 0
IsMade fs w u t v changes op = (h : History) → Stand fs w u h → t.value ≡ clock h → v ≡ version h
    → op ≡ local_edit h t.replica changes
