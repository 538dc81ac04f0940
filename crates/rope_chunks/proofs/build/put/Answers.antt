use Rattle.sum_tree.specs.Spliced.{splice_list}
use Rattle.rope_chunks.proofs.Grows.{are_short, are_fit}
use Rattle.rope_chunks.proofs.build.put.Goals as goal

pub splice-requires-clause-short : goal.splice-requires-clause-short
splice-requires-clause-short c = are_short (splice_list c.args.from c.args.to c.args.chunks.items c.args.tree.now.items) c.requires.chunks

pub splice-requires-clause-fits : goal.splice-requires-clause-fits
splice-requires-clause-fits c = are_fit (splice_list c.args.from c.args.to c.args.chunks.items c.args.tree.now.items) c.requires.chunks
