use Rattle.std.proofs.Common.{◌≡◌, ◌++◌, drop, map, option_map}
use Rattle.serde_json.specs.View.{view}
use Rattle.session_lines.specs.Json.{whole_number}
use Rattle.session_lines.specs.Parts.{all_of}
use Rattle.session_lines.proofs.parts.numbers_from.Given as goal

abbrev pub invariant-loop-member : goal.invariant-loop-member
invariant-loop-member l = option_map (λ xs. l.numbers.items ++ xs) (all_of whole_number (map view (drop l.member-index l.members))) ≡ all_of whole_number (map view l.members)
