use Rattle.std.proofs.Common.{◌++◌}
use Rattle.rope_chunks.proofs.Grows.{are_short, are_fit}
use Rattle.rope_chunks.proofs.build.join.Goals as goal

pub append-requires-clause-short : goal.append-requires-clause-short
append-requires-clause-short c = are_short (c.args.front.now.items ++ c.args.back.items) c.requires

pub append-requires-clause-fits : goal.append-requires-clause-fits
append-requires-clause-fits c = are_fit (c.args.front.now.items ++ c.args.back.items) c.requires
