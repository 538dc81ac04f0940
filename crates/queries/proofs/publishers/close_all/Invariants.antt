use Rattle.std.specs.Prelude.{vec_len}
use Rattle.queries.proofs.publishers.close_all.Given as goal

abbrev pub decreases-loop-publisher : goal.decreases-loop-publisher
decreases-loop-publisher g l = vec_len l.list
