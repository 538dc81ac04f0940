-- Equal operations.
use Rattle.std.specs.Prelude.{Bool, true, false, ◌==◌, ◌&&◌}
use Rattle.lamport_clock.specs.Stamps.{same_stamp}
use Rattle.op_model.specs.declared.anchor.Anchor.{Anchor}
use Rattle.op_model.specs.declared.anchor.Anchor.TheVariants.{Least, Greatest, At}
use Rattle.op_model.specs.declared.anchor.Bias.{Bias}
use Rattle.op_model.specs.declared.anchor.Bias.TheVariants.{Left, Right}
use Rattle.op_model.specs.Answers.{same_list}
use Rattle.selections.specs.declared.selection.Selection.{Selection}
use Rattle.selections.specs.declared.selection.SelectionOp.{SelectionOp}

abbrev pub same_bias : Bias → Bias → Bool
same_bias Left Left = true
same_bias Left Right = false
same_bias Right Left = false
same_bias Right Right = true

abbrev pub same_anchor : Anchor → Anchor → Bool
same_anchor Least Least = true
same_anchor Least Greatest = false
same_anchor Least (At t k b) = false
same_anchor Greatest Least = false
same_anchor Greatest Greatest = true
same_anchor Greatest (At t k b) = false
same_anchor (At s j a) Least = false
same_anchor (At s j a) Greatest = false
same_anchor (At s j a) (At t k b) = same_stamp s t && j == k && same_bias a b

abbrev pub same_selection : Selection → Selection → Bool
same_selection r q = same_anchor r.start q.start && same_anchor r.end q.end

-- equal operations have one stamp, and the same selections in the same order
abbrev pub same_operation : SelectionOp → SelectionOp → Bool
same_operation a b = same_stamp a.stamp b.stamp && same_list same_selection a.ranges b.ranges
