use Rattle.std.proofs.Common.{◌≡◌, drop}
use Rattle.fragments.specs.Spans.{covers_all}
use Rattle.fragments.proofs.spans.Spans.covers.Given as goal

abbrev pub invariant-loop-span : goal.invariant-loop-span
invariant-loop-span l = record {
  rest : covers_all l.self l.others ≡ covers_all l.self (drop l.span-index l.span-items);
}
