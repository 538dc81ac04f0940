use Rattle.buffer_handles.proofs.Places.{no_point, position_found}
use Rattle.buffer_handles.proofs.positions.position_of.Goals as goal

pub returns-in_err-wide : goal.returns-in_err-wide
returns-in_err-wide c = absurd (no_point c.args.rope.now c.args.offset c.in_ok-point.point c.in_ok-point.ensures c.in_err-wide.ensures)

pub returns : goal.returns
returns c = position_found c.args.rope.now c.args.offset c.in_ok-point.point c.in_ok-utf16.utf16 c.in_ok-wide.wide c.in_ok-point.ensures c.in_ok-utf16.ensures c.in_ok-wide.ensures
