use Rattle.std.proofs.Common.{◌≡◌, drop, map}
use Rattle.record_lines.specs.Packing.{records_of}
use Rattle.record_lines.proofs.Packs.{after_records}
use Rattle.record_lines.proofs.packing.pack.Given as goal

abbrev pub invariant-loop-line : goal.invariant-loop-line
invariant-loop-line l = record {
  packs : records_of (map (λ p. (p.0, p.1.now)) l.operations) ≡ after_records l.out.items (records_of (map (λ p. (p.0, p.1.now)) (drop l.line-index l.operations)));
}
