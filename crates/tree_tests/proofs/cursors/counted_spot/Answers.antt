use Rattle.std.proofs.Common.{refl, arith}
use Rattle.tree_tests.proofs.cursors.counted_spot.Goals as goal

pub spot_with-requires-clause-name : goal.spot_with-requires-clause-name
spot_with-requires-clause-name c = refl

pub spot_with-requires-clause-parts : goal.spot_with-requires-clause-parts
spot_with-requires-clause-parts c = refl

pub spot_with-requires-clause-some : goal.spot_with-requires-clause-some
spot_with-requires-clause-some c = omega (arith, c.new.ensures)
