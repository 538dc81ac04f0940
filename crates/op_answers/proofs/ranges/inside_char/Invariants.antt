use Rattle.std.proofs.Common.{◌≡◌, drop}
use Rattle.std.specs.List.{position, position_from}
use Rattle.op_model.specs.Histories.{History, seen_history}
use Rattle.op_model.specs.Shown.{full}
use Rattle.op_model.specs.Edits.{is_inside}
use Rattle.op_model.specs.Lawful.{Lawful, IsClosed}
use Rattle.seen_text.specs.Texts.{TellTexts}
use Rattle.op_answers.proofs.ranges.inside_char.Given as goal

abbrev pub invariant-loop-i : goal.invariant-loop-i
invariant-loop-i l = (h : History) → TellTexts l.fragments.items l.shown l.hidden h → Lawful h → IsClosed h l.version
    → position_from (is_inside (full (seen_history h l.version))) l.i (drop l.i l.pieces) ≡ position (is_inside (full (seen_history h l.version))) l.pieces
