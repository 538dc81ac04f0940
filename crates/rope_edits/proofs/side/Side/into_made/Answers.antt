use Rattle.std.proofs.lemmas.Str.{IsCharBoundary-start}
use Rattle.rope_edits.proofs.side.Side.into_made.Goals as goal

pub slice-requires-clause-start : goal.slice-requires-clause-start
slice-requires-clause-start c = IsCharBoundary-start c.self.inside.rope c.known.ensures.text
