use Rattle.std.proofs.Common.{◌≡◌, drop}
use Rattle.fragments.specs.Spans.{join_spans}
use Rattle.fragments.proofs.spans.Spans.wider.Given as goal

abbrev pub invariant-loop-span : goal.invariant-loop-span
invariant-loop-span l = record {
  joined : join_spans l.inner.items (drop l.span-index l.span-items) ≡ join_spans l.self l.others;
}
