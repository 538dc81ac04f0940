use Rattle.std.proofs.Common.{◌∙◌}
use Rattle.buffer_handles.proofs.Places.{point_found}
use Rattle.buffer_handles.proofs.positions.position_of_point.Goals as goal

pub returns : goal.returns
returns c = c.position_of.ensures ∙ point_found c.args.rope.now (record { row = c.args.row; column = c.args.column }) c.in_ok-offset.offset c.in_ok-offset.ensures
