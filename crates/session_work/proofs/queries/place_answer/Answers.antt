use Rattle.session_work.proofs.Places.{no_point, place_found}
use Rattle.session_work.proofs.queries.place_answer.Goals as goal

pub returns-in_err-point_utf16 : goal.returns-in_err-point_utf16
returns-in_err-point_utf16 c = absurd (no_point c.args.rope.now c.args.offset c.in_ok-point.point c.in_ok-point.ensures c.in_err-point_utf16.ensures)

pub returns : goal.returns
returns c = place_found c.args.rope.now c.args.offset c.in_ok-point.point c.in_ok-utf16.utf16 c.in_ok-point_utf16.point_utf16 c.in_ok-point.ensures c.in_ok-utf16.ensures c.in_ok-point_utf16.ensures
