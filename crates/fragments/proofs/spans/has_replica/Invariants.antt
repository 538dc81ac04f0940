use Rattle.std.proofs.Common.{◌≡◌, drop}
use Rattle.fragments.specs.Spans.{has_replica}
use Rattle.fragments.proofs.spans.has_replica.Given as goal

abbrev pub invariant-loop-span : goal.invariant-loop-span
invariant-loop-span l = record {
  rest : has_replica l.spans l.r ≡ has_replica (drop l.span-index l.spans) l.r;
}
