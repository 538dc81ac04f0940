use Rattle.std.proofs.Common.{◌≡◌, ◌++◌, drop, codes, string_bytes}
use Rattle.std.specs.List.{flat_map, join_by}
use Rattle.session_more.specs.Reports.{range_words}
use Rattle.session_more.proofs.text.push_ranges.Given as goal

abbrev pub invariant-loop-range : goal.invariant-loop-range
invariant-loop-range l = string_bytes l.out ++ flat_map (λ p. codes ", " ++ range_words p) (drop l.range-index l.others) ≡ string_bytes l.fn.out ++ join_by range_words (codes ", ") l.ranges
