use Rattle.std.proofs.Common.{◌≡◌, ◌++◌, drop, codes, string_bytes}
use Rattle.std.specs.List.{flat_map, join_by}
use Rattle.session_lines.specs.Report.{edit_words}
use Rattle.session_lines.proofs.text.push_edits.Given as goal

abbrev pub invariant-loop-edit : goal.invariant-loop-edit
invariant-loop-edit l = string_bytes l.out ++ flat_map (λ e. codes ", " ++ edit_words e) (drop l.edit-index l.others) ≡ string_bytes l.fn.out ++ join_by edit_words (codes ", ") l.edits
