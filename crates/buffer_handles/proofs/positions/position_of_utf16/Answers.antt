use Rattle.std.proofs.Common.{◌∙◌}
use Rattle.buffer_handles.proofs.Places.{utf16_found}
use Rattle.buffer_handles.proofs.positions.position_of_utf16.Goals as goal

pub returns : goal.returns
returns c = c.position_of.ensures ∙ utf16_found c.args.rope.now (record { 0 = c.args.units }) c.in_ok-offset.offset c.in_ok-offset.ensures
