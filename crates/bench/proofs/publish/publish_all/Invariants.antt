use Rattle.std.proofs.Common.{◌≡◌, ◌∷◌, []}
use Rattle.bench.proofs.publish.publish_all.Given as goal

abbrev pub invariant-loop-i : goal.invariant-loop-i
invariant-loop-i g l = l.publisher.published ≡ l.snapshot ∷ []
