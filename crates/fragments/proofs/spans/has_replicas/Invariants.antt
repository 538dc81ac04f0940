use Rattle.std.proofs.Common.{◌≡◌, drop}
use Rattle.fragments.specs.Spans.{has_replicas}
use Rattle.fragments.proofs.spans.has_replicas.Given as goal

abbrev pub invariant-loop-span : goal.invariant-loop-span
invariant-loop-span l = record {
  rest : has_replicas l.spans l.others ≡ has_replicas l.spans (drop l.span-index l.others);
}
