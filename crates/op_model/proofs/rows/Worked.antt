-- Short names for worked histories, and all definitions that compute.
use Rattle.std.proofs.Common.{ℕ, List, [], ◌∷◌}
use Rattle.lamport_clock.specs.declared.stamp.Lamport.{Lamport}
use Rattle.lamport_clock.specs.Stamps.{later, same_stamp}
use Rattle.lamport_clock.specs.Versions.{Entries}
use Rattle.op_model.specs.declared.operation.Piece.{Piece}
use Rattle.op_model.specs.declared.operation.UndoCount.{UndoCount}
use Rattle.op_model.specs.declared.operation.Operation.{Operation}
use Rattle.op_model.specs.declared.operation.Operation.TheVariants.{Edit, Undo}
use Rattle.op_model.specs.declared.limits.Limits.{Limits as LimitsType}
use Rattle.op_model.specs.declared.endings.Endings.TheVariants.{AsIs}
use Rattle.op_model.specs.Rules.{Rules}
use Rattle.op_model.specs.Cells.{same_cell, sibling_first, seq_where, seq}
use Rattle.op_model.specs.Laid.{replay}
use Rattle.op_model.specs.Shown.{deleters_where, shows_where, shows, text_where, text, full_where, full}
use Rattle.op_model.specs.Made.{local_edit, local_undo}
use Rattle.op_model.specs.Answers.{answer}
use Rattle.op_model.specs.Anchors.{left_anchor, right_anchor, place, gap, compare_anchors, is_known}
use Rattle.op_model.specs.Since.{since}
use Rattle.op_model.specs.Settled.{pass, passes, settle}

abbrev pub stamp : ℕ → ℕ → Lamport
stamp v r = record { value = v; replica = r }

abbrev pub piece : ℕ → ℕ → List ℕ → Piece
piece s e t = record { start = s; end = e; text = t }

abbrev pub edit : ℕ → ℕ → Entries → List Piece → Operation
edit value r v ps = Edit (record { stamp = stamp value r; version = v; pieces = ps })

abbrev pub undo : ℕ → ℕ → Entries → List UndoCount → Operation
undo value r v cs = Undo (record { stamp = stamp value r; version = v; counts = cs })

abbrev pub counts : ℕ → ℕ → ℕ → UndoCount
counts v r n = record { edit = stamp v r; count = n }

-- the version that has seen the base alone
abbrev pub v0 : Entries
v0 = (0, 1) ∷ []

abbrev pub ample : LimitsType
ample = record { bytes = 1099511627776; entries = 1099511627775 }

-- the same limits, and texts as they come
abbrev pub rules : Rules
rules = record { limits = ample; endings = AsIs }

unfoldable pub open_all : ℕ
unfolding later same_stamp same_cell sibling_first seq_where seq replay deleters_where shows_where shows text_where text full_where full local_edit local_undo answer left_anchor right_anchor place gap compare_anchors is_known since pass passes settle
open_all = 0
