use Rattle.std.proofs.Common.{◌≡◌, take, drop, []}
use Rattle.op_model.specs.Made.{first_twice}
use Rattle.op_answers.proofs.twice.find_by_comparing.Given as goal

abbrev pub invariant-loop-i : goal.invariant-loop-i
invariant-loop-i l = first_twice (take l.i l.stamps) (drop l.i l.stamps) ≡ first_twice [] l.stamps
