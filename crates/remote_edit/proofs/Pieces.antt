-- One turn of the walk over the pieces of an edit.
use Rattle.std.proofs.Common.{◌≡◌, ℕ, ◌+◌, ◌-◌, true, false, List, ◌∷◌, length, refl, sym, ap}
use Rattle.lamport_clock.specs.declared.stamp.Lamport.{Lamport}
use Rattle.lamport_clock.specs.Versions.{Entries}
use Rattle.op_model.specs.declared.operation.Piece.{Piece}
use Rattle.undo_map.specs.declared.entry.UndoEntry.{UndoEntry}
use Rattle.fragments.specs.declared.fragment.Fragment.{Fragment}
use Rattle.remote_edit.specs.Walk.{Zip, zip, one_piece, changes, walk}

module _ (w : List UndoEntry) (t : Lamport) (v : Entries) (at k : ℕ) (p : Piece) (ps : List Piece) (pre rest : List Fragment) where
  -- a piece that changes nothing is passed over
  pub walk_none : changes p ≡ false → walk w t v at k (p ∷ ps) pre rest ≡ walk w t v at k ps pre rest
  walk_none e = rw e refl

  -- another is walked over
  pub walk_one : (pre2 rest2 : List Fragment) → changes p ≡ true → zip pre2 rest2 ≡ one_piece w t v (p.start - at) k p pre rest → walk w t v at k (p ∷ ps) pre rest ≡ walk w t v p.end (k + length p.text) ps pre2 rest2
  walk_one pre2 rest2 e z = rw e (ap (λ (q : Zip). walk w t v p.end (k + length p.text) ps q.pre q.rest) (sym z))
