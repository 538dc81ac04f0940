-- The fragments of a history, operation by operation.
use Rattle.std.specs.Prelude.{List, [], ◌∷◌, ◌++◌, map}
use Rattle.op_model.specs.declared.operation.EditOp.{EditOp}
use Rattle.op_model.specs.declared.operation.Operation.{Operation}
use Rattle.op_model.specs.declared.operation.Operation.TheVariants.{Edit, Undo}
use Rattle.op_model.specs.declared.operation.UndoCount.{UndoCount}
use Rattle.op_model.specs.Histories.{History}
use Rattle.undo_map.specs.declared.entry.UndoEntry.{UndoEntry}
use Rattle.undo_map.specs.Undos.{undo_entries}
use Rattle.fragments.specs.declared.fragment.Fragment.{Fragment}
use Rattle.remote_edit.specs.Walk.{walk}
use Rattle.remote_edit.specs.Anew.{all_anew}

-- fragments with an edit, by one walk from its first piece to its last with undo counts w
abbrev pub with_edit : List UndoEntry → List Fragment → EditOp → List Fragment
with_edit w fs e = walk w e.stamp e.version 0 0 e.pieces [] fs

-- the fragments after one more operation, from those fs of a history
abbrev pub with_operation : History → List Fragment → Operation → List Fragment
with_operation h fs (Edit e) = with_edit (undo_entries h) fs e
with_operation h fs (Undo u) = all_anew (undo_entries (h ++ Undo u ∷ [])) u.stamp
    (map (λ (c : UndoCount). c.edit) u.counts) fs

-- the fragments after more operations, from those fs of a history
abbrev pub with_operations : History → List Fragment → List Operation → List Fragment
with_operations h fs [] = fs
with_operations h fs (op ∷ ops) = with_operations (h ++ op ∷ []) (with_operation h fs op) ops

-- the fragments of a history
abbrev pub fragments_of : History → List Fragment
fragments_of h = with_operations [] [] h
