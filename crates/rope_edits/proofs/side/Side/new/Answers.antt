use Rattle.std.proofs.lemmas.Str.{IsCharBoundary-start}
use Rattle.rope_edits.proofs.side.Side.new.Goals as goal

pub invariant_of-result : goal.invariant_of-result
invariant_of-result c = IsCharBoundary-start c.args.rope c.known.ensures.text
