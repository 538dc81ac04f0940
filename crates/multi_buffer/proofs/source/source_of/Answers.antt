use Rattle.std.proofs.Common.{sym}
use Rattle.multi_buffer.proofs.Sourced.{gap_find, place_find}
use Rattle.multi_buffer.proofs.source.source_of.Goals as goal

pub returns-in-Ok : goal.returns-in-Ok
returns-in-Ok c = sym (place_find 0 c.args.buffer c.args.sources.now c.in-Ok.at c.index-sources-at.result c.requires c.in-Ok.ensures.place c.index-sources-at.is)

pub returns-in-Err : goal.returns-in-Err
returns-in-Err c = sym (gap_find c.args.buffer c.args.sources.now c.in-Err.field-0 c.in-Err.ensures.gap)
