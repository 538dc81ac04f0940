-- What fragments, an index and two texts are of a history, where anchors of it are made and found, and where an anchor stands.
use Rattle.std.specs.Prelude.{◌≡◌, ℕ, List, Option, Some, None, if◌then◌else◌}
use Rattle.std.specs.List.{AllByRecursion}
use Rattle.op_model.specs.Histories.{History}
use Rattle.op_model.specs.Lawful.{Lawful}
use Rattle.op_model.specs.Shown.{text, hidden_text}
use Rattle.op_model.specs.Walked.{IsWhole}
use Rattle.op_model.specs.Anchors.{place, gap, is_known}
use Rattle.op_model.specs.declared.anchor.Anchor.{Anchor}
use Rattle.op_model.specs.declared.anchor.Anchor.TheVariants.{Least, Greatest, At}
use Rattle.op_model.specs.declared.anchor.Bias.{Bias}
use Rattle.op_model.specs.declared.anchor.Bias.TheVariants.{Left, Right}
use Rattle.undo_map.specs.declared.entry.UndoEntry.{UndoEntry}
use Rattle.fragments.specs.declared.fragment.Fragment.{Fragment}
use Rattle.fragments.specs.DeletedRuns.{IndexState}
use Rattle.fragments.specs.Stand.{Stand, runs}
use Rattle.anchors.specs.declared.standing.Standing.{Standing}

-- the fragments fs and the index w stand for the lawful history h, with some undo counts; the fragments begin and end between
-- characters; v and n are its shown and its hidden text
pub record StandFor (fs : List Fragment) (w : IndexState) (v n : List ℕ) (h : History) : Type 0 where
  pub undos : List UndoEntry
  pub stands : Stand fs w undos h
  pub whole : AllByRecursion (IsWhole h) (runs fs)
  pub lawful : Lawful h
  pub shows : v ≡ text h
  pub hides : n ≡ hidden_text h

-- ---- for private clauses

-- the side of its gap that an anchor keeps to
abbrev pub bias_of : Anchor → Bias
bias_of Least = Left
bias_of Greatest = Right
bias_of (At t k b) = b

-- 0 before the gap, 1 behind it
abbrev pub side : Bias → ℕ
side Left = 0
side Right = 1

-- where a known anchor stands, None for one that is not known
abbrev pub standing_of : History → Anchor → Option Standing
standing_of h a = if is_known h a
    then Some (record { place = place h a; gap = (gap h a).0; bias = bias_of a }) else None
