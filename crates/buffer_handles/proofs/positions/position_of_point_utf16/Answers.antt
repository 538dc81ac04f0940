use Rattle.std.proofs.Common.{◌∙◌}
use Rattle.buffer_handles.proofs.Places.{point_utf16_found}
use Rattle.buffer_handles.proofs.positions.position_of_point_utf16.Goals as goal

pub returns : goal.returns
returns c = c.position_of_point.ensures ∙ point_utf16_found c.args.rope.now (record { row = c.args.row; column = c.args.column }) c.in_ok-point.point c.in_ok-point.ensures
