use Rattle.std.proofs.Common.{◌≡◌, ◌++◌, drop, map, option_map}
use Rattle.serde_json.specs.View.{view}
use Rattle.session_lines.specs.Parts.{all_of, count_of_value}
use Rattle.session_lines.proofs.parts.counts_from.Given as goal

abbrev pub invariant-loop-member : goal.invariant-loop-member
invariant-loop-member l = option_map (λ xs. l.counts.items ++ xs) (all_of count_of_value (map view (drop l.member-index l.members))) ≡ all_of count_of_value (map view l.members)
