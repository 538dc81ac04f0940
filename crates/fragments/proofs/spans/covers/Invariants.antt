use Rattle.std.proofs.Common.{◌≡◌, drop}
use Rattle.fragments.specs.Spans.{covers}
use Rattle.fragments.proofs.spans.covers.Given as goal

abbrev pub invariant-loop-other : goal.invariant-loop-other
invariant-loop-other l = record {
  rest : covers l.spans l.span ≡ covers (drop l.other-index l.spans) l.span;
}
