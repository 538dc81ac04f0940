use Rattle.std.proofs.Common.{◌≡◌, true, drop}
use Rattle.fragments.specs.Spans.{join_spans, has_replicas}
use Rattle.fragments.proofs.spans.Spans.join.Given as goal

abbrev pub invariant-loop-span : goal.invariant-loop-span
invariant-loop-span l = record {
  joined : join_spans l.self (drop l.span-index l.span-items) ≡ join_spans l.initial.self l.others;
  here : has_replicas l.self (drop l.span-index l.span-items) ≡ true;
}
