use Rattle.std.proofs.Common.{◌≡◌, ◌++◌, drop, map, option_map}
use Rattle.serde_json.specs.View.{view}
use Rattle.session_lines.specs.Parts.{all_of}
use Rattle.session_more.specs.Forms.{range_of_value}
use Rattle.session_more.proofs.forms.ranges_from.Given as goal

abbrev pub invariant-loop-member : goal.invariant-loop-member
invariant-loop-member l = option_map (λ xs. l.ranges.items ++ xs) (all_of range_of_value (map view (drop l.member-index l.members))) ≡ all_of range_of_value (map view l.members)
