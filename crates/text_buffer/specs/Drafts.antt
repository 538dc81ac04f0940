-- What drafts of contents come to.
use Rattle.std.specs.Prelude.{◌≡◌, ℕ, List, Option, Some, None, IfSome}
use Rattle.std.specs.List.{AllByRecursion}
use Rattle.op_model.specs.declared.operation.Operation.{Operation}
use Rattle.op_model.specs.Shown.{text, hidden_text}
use Rattle.op_model.specs.Walked.{IsWhole}
use Rattle.undo_map.specs.declared.entry.UndoEntry.{UndoEntry}
use Rattle.fragments.specs.declared.fragment.Fragment.{Fragment}
use Rattle.fragments.specs.Stand.{Stand, runs}
use Rattle.remote_edit.specs.declared.plan.Placement.{Placement}
use Rattle.remote_edit.specs.Changes.{after_change, MayChange}
use Rattle.remote_edit.specs.Fragments.{fragments_of}
use Rattle.remote_edit.specs.Moves.{after_moves, texts_of}
use Rattle.text_buffer.specs.declared.draft.Draft.{Draft}

-- the draft has the change and the index of what an operation made, the undo counts u, and both texts of h after its moves, n being
-- its new text
pub record IsDrafted (d : Draft) (p : Placement) (u : List UndoEntry) (h : List Operation) (n : List ℕ) : Type 0 where
  pub change : d.change ≡ p.change
  pub index : d.index ≡ p.index
  pub undos : d.undos ≡ u
  pub texts : texts_of d.text d.hidden ≡ after_moves p.moves (text h) (hidden_text h) n

-- with the fragments fs after its change, the draft is the content of h
pub record IsDraft (d : Draft) (fs : List Fragment) (h : List Operation) : Type 0 where
  pub may : MayChange d.change fs
  pub fragments : after_change d.change fs ≡ fragments_of h
  pub stand : Stand (after_change d.change fs) d.index d.undos h
  pub whole : AllByRecursion (IsWhole h) (runs (after_change d.change fs))
  pub shown : d.text ≡ text h
  pub hidden : d.hidden ≡ hidden_text h

-- ---- for private clauses

-- what holds of each value holds of one that may be there
pub some_always : {T : Type 0} (o : Option T) (P : T → Type 0) → ((x : T) → P x) → IfSome o P
some_always None P f = tt
some_always (Some x) P f = f x
