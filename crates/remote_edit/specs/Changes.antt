-- The change of the fragments that an edit leaves to be made, and what it must come to.
use Rattle.std.specs.Prelude.{◌≡◌, ℕ, ◌≤◌, ⊤, List, length}
use Rattle.op_model.specs.declared.operation.EditOp.{EditOp}
use Rattle.op_model.specs.declared.operation.Operation.TheVariants.{Edit}
use Rattle.undo_map.specs.declared.entry.UndoEntry.{UndoEntry}
use Rattle.fragments.specs.declared.fragment.Fragment.{Fragment}
use Rattle.fragments.specs.DeletedRuns.{IndexState}
use Rattle.sum_tree.specs.Spliced.{splice_list}
use Rattle.remote_edit.specs.declared.tree_change.TreeChange.{TreeChange}
use Rattle.remote_edit.specs.declared.tree_change.TreeChange.TheVariants.{Range, Whole}
use Rattle.remote_edit.specs.declared.plan.Placement.{Placement}
use Rattle.remote_edit.specs.Walk.{Fit}
use Rattle.remote_edit.specs.Starts.{MakeFew}
use Rattle.remote_edit.specs.Fragments.{with_edit}
use Rattle.remote_edit.specs.Placing.{ArePlaced, MoveWithEdit, KeepCharactersWithEdit}

-- the fragments fs after a change
abbrev pub after_change : TreeChange → List Fragment → List Fragment
after_change (Range i j made) fs = splice_list i j made.items fs
after_change (Whole tree) fs = tree.items

-- a change that may be made of the fragments fs
abbrev pub MayChange : TreeChange → List Fragment → Type 0
MayChange (Range i j made) fs = (i ≤ j) × (j ≤ length fs) × Fit (splice_list i j made.items fs)
MayChange (Whole tree) fs = ⊤

-- the steps between old and new are no more than a change may take
abbrev pub ChangeFew : TreeChange → ℕ → ℕ → Type 0
ChangeFew (Range i j made) old new = MakeFew old new i j (length made.items)
ChangeFew (Whole tree) old new = new ≤ old

-- what an edit makes of the fragments fs, the index w and the undo counts u, once the change is made
pub record IsPlacement (fs : List Fragment) (w : IndexState) (u : List UndoEntry) (op : EditOp) (p : Placement) : Type 0 where
  pub may : MayChange p.change fs
  pub fragments : after_change p.change fs ≡ with_edit u fs op
  pub stands : ArePlaced fs w u (Edit op) (after_change p.change fs) p.index
  pub moves : MoveWithEdit fs w u (Edit op) p.moves
  pub characters : KeepCharactersWithEdit fs w u (Edit op) (after_change p.change fs) p.moves
