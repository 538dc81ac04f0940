-- What takes the texts back to those that a version saw, on the way.
use Rattle.std.proofs.Common.{◌≡◌, Bool, List, [], ◌∷◌, map, refl, sym, ap, subst}
use Rattle.std.specs.List.{AllByRecursion}
use Rattle.lamport_clock.specs.declared.stamp.Lamport.{Lamport}
use Rattle.lamport_clock.specs.Versions.{Entries}
use Rattle.undo_map.specs.declared.entry.UndoEntry.{UndoEntry}
use Rattle.fragments.specs.declared.fragment.Fragment.{Fragment}
use Rattle.remote_edit.specs.declared.moves.Move.{Move}
use Rattle.remote_edit.specs.Among.{moves_among}
use Rattle.remote_edit.specs.Carried.{CarryOn}
use Rattle.remote_edit.proofs.MovesAmong.{Becomes, carried}
use Rattle.edits_since.specs.Back.{move_back}
use Rattle.edits_since.specs.Differs.{may_differ}
use Rattle.edits_since.specs.Fates.{was_in_text}
use Rattle.edits_since.proofs.Walking.{IsSettled}

-- the cells of f, shown where they were in the text that v saw
abbrev pub as_seen : List UndoEntry → Entries → Fragment → Fragment
as_seen u v f = record f { visible = was_in_text u v f }

-- the moves carry the bytes of the fragments fs along to the texts that v saw
abbrev pub CarryBack : List Fragment → List UndoEntry → Entries → List Move → Type 0
CarryBack fs u v ms = (t : Lamport) → CarryOn t [] [] fs 0 ms (map (as_seen u v) fs) [] 0

-- fragments of which the version has seen all stay
become_seen : (u : List UndoEntry) (v : Entries) (fs : List Fragment) → AllByRecursion (IsSettled u v) fs → AllByRecursion (Becomes (may_differ v) (move_back u v) (as_seen u v)) fs
become_seen u v [] e = tt
become_seen u v (f ∷ fs) e = (record { cells = (refl, refl, refl); move = refl; stays = λ n. ap (λ (b : Bool). record f { visible = b }) (e.0 n) }, become_seen u v fs e.1)

pub carried_back : (u : List UndoEntry) (v : Entries) (fs : List Fragment) (ms : List Move) → ms ≡ moves_among (may_differ v) (move_back u v) fs → AllByRecursion (IsSettled u v) fs → CarryBack fs u v ms
carried_back u v fs ms q e t = subst (λ (z : List Move). CarryOn t [] [] fs 0 z (map (as_seen u v) fs) [] 0) (sym q) (carried (may_differ v) (move_back u v) (as_seen u v) t fs (become_seen u v fs e))
