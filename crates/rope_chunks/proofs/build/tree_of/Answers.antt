use Rattle.rope_chunks.proofs.Grows.{are_short, are_fit}
use Rattle.rope_chunks.proofs.build.tree_of.Goals as goal

pub from_list-requires-clause-short : goal.from_list-requires-clause-short
from_list-requires-clause-short c = are_short c.args.chunks.items c.requires

pub from_list-requires-clause-fits : goal.from_list-requires-clause-fits
from_list-requires-clause-fits c = are_fit c.args.chunks.items c.requires
