use Rattle.std.proofs.Common.{◌≡◌, ◌++◌, drop, codes, decimal, string_bytes}
use Rattle.std.specs.List.{flat_map, join_by}
use Rattle.session_lines.proofs.text.push_starts.Given as goal

abbrev pub invariant-loop-start : goal.invariant-loop-start
invariant-loop-start l = string_bytes l.out ++ flat_map (λ n. codes " " ++ decimal n) (drop l.start-index l.others) ≡ string_bytes l.fn.out ++ join_by decimal (codes " ") l.starts
