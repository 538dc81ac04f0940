use Rattle.std.proofs.Common.{subst}
use Rattle.std.specs.Str.{IsUtf8}
use Rattle.rope_chunks.proofs.Texts.{concat-utf8}
use Rattle.rope_chunks.proofs.rope.Rope.known.Goals as goal

pub returns-clause-text : goal.returns-clause-text
returns-clause-text c = subst (λ t. IsUtf8 t) c.self.view_is (concat-utf8 c.self.inside.chunks.items c.self.invariant.each)
