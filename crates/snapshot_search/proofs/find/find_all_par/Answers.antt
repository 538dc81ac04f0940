use Rattle.std.proofs.Common.{ap, ◌∙◌}
use Rattle.snapshot_search.specs.Starts.{starts}
use Rattle.snapshot_search.proofs.find.find_all_par.Goals as goal

pub returns-clause-starts : goal.returns-clause-starts
returns-clause-starts g c = c.in_ok-found.ensures ∙ ap (starts c.args.rope.now) (c.in_ok-needle.ensures ∙ c.as_bytes.ensures.value)
