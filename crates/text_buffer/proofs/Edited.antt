-- The fields of a buffer after an edit.
use Rattle.std.proofs.Common.{◌∙◌, ◌≡◌, ◌+◌, List, [], ◌∷◌, ◌++◌, length, None}
use Rattle.op_model.specs.declared.operation.Piece.{Piece}
use Rattle.op_model.specs.Operations.{text_total}
use Rattle.op_model.specs.Edits.{replace_ranges}
use Rattle.op_model.specs.Shown.{text}
use Rattle.op_model.specs.Made.{local_edit, local_edit_fault}
use Rattle.op_model.specs.Rules.{answer_under, rule_fault}
use Rattle.op_model.specs.Answers.{answer}
use Rattle.op_model.specs.Answers.Answer.{Good}
use Rattle.op_model.specs.Settled.{full_fault}
use Rattle.op_model.proofs.answers.Under.{under_clean}
use Rattle.op_model.proofs.histories.Proper.{edit_good}
use Rattle.op_model.proofs.answers.Local.{made_edit_total, made_edit_entries}
use Rattle.text_buffer.specs.Buffer.{BufferState, IsBuffer, rules}
use Rattle.text_buffer.proofs.Fit.{no_excess}
use Rattle.text_buffer.proofs.Applied.{within_limits}

-- ---- an edit without fault

-- the pieces have entered
pub good_of : (b : BufferState) (ps : List Piece) → IsBuffer b → local_edit_fault b.limits b.history ps ≡ None
    → (answer b.history [] (local_edit b.history b.replica ps) ≡ Good) × (text (b.history ++ local_edit b.history b.replica ps ∷ []) ≡ replace_ranges ps (text b.history))
good_of b ps h e = edit_good b.limits b.history b.replica ps h.history.lawful h.history.proper (h.least_replica, h.greatest_replica) e

-- and its operation keeps the rule
pub good_under : (b : BufferState) (ps : List Piece) → IsBuffer b → local_edit_fault b.limits b.history ps ≡ None → rule_fault b.endings (local_edit b.history b.replica ps) ≡ None
    → answer_under b.endings b.history [] (local_edit b.history b.replica ps) ≡ Good
good_under b ps h e n = under_clean b.endings b.history [] (local_edit b.history b.replica ps) n ∙ (good_of b ps h e).0

-- its operation passes no limit
pub room_made : (b : BufferState) (ps : List Piece) → local_edit_fault b.limits b.history ps ≡ None → full_fault (rules b) b.history (local_edit b.history b.replica ps) ≡ None
room_made b ps e = within_limits b (local_edit b.history b.replica ps) (text_total ps) (1 + length ps) (made_edit_total b.history b.replica ps) (made_edit_entries b.history b.replica ps) (no_excess b.limits b.history ps e)
