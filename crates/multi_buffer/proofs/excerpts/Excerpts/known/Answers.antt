use Rattle.std.proofs.Common.{subst}
use Rattle.multi_buffer.specs.Found.{AreShort}
use Rattle.multi_buffer.proofs.excerpts.Excerpts.known.Goals as goal

pub returns : goal.returns
returns c = subst AreShort c.self.view_is c.self.invariant.short
