use Rattle.std.proofs.Common.{subst}
use Rattle.text_buffer.specs.Document.{IsContent}
use Rattle.text_buffer.proofs.Costs.{no_cost}
use Rattle.text_buffer.proofs.document.Document.known_cost.Goals as goal

pub returns : goal.returns
returns c = λ changes.
    no_cost c.self.inside.content c.args.self.now changes 0 (subst (IsContent c.self.inside.content) c.self.view_is c.self.invariant.content) c.known.ensures.tall
