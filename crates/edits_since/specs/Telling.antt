-- What the edits since a version are, where fragments stand for a history.
use Rattle.std.specs.Prelude.{◌≡◌, List}
use Rattle.lamport_clock.specs.Versions.{Entries}
use Rattle.op_model.specs.declared.anchor.TextEdit.{TextEdit}
use Rattle.op_model.specs.Histories.{History}
use Rattle.op_model.specs.Lawful.{Lawful, IsClosed}
use Rattle.op_model.specs.Since.{since}
use Rattle.undo_map.specs.declared.entry.UndoEntry.{UndoEntry}
use Rattle.fragments.specs.declared.fragment.Fragment.{Fragment}
use Rattle.fragments.specs.DeletedRuns.{IndexState}
use Rattle.fragments.specs.Stand.{Stand}

-- the fragments and the undo counts stand, with an index, for the lawful history h, in which v is closed
pub record MayTell (fs : List Fragment) (u : List UndoEntry) (v : Entries) (h : History) : Type 0 where
  pub index : IndexState
  pub stands : Stand fs index u h
  pub lawful : Lawful h
  pub closed : IsClosed h v

-- the edits are those since v of each such history
abbrev pub AreSince : List Fragment → List UndoEntry → Entries → List TextEdit → Type 0
AreSince fs u v es = (h : History) → MayTell fs u v h → es ≡ since h v
