use Rattle.std.proofs.Common.{ap, map, ◌∙◌}
use Rattle.op_model.specs.declared.endings.Endings.TheVariants.{AsIs}
use Rattle.session_maker.specs.Made.{base_text}
use Rattle.text_buffer.specs.Buffer.{base_under}
use Rattle.session_work.specs.Making.{made_opening}
use Rattle.session_work.specs.Work.{first_buffer}
use Rattle.session_work.proofs.Steps.{same_names, same_state}
use Rattle.session_work.proofs.making.Making.new.Goals as goal

pub returns-clause-state : goal.returns-clause-state
returns-clause-state c =
    let made = c.in_ok-progress.ensures in
    same_state _ _ _ _ (made.buffers ∙ ap (map (first_buffer (base_under AsIs base_text))) c.requires.counted) made.operations
    ∙ same_names (made_opening _) _ _ _ _ made.anchors made.marks
