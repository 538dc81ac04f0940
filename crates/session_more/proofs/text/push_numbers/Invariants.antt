use Rattle.std.proofs.Common.{◌≡◌, ◌++◌, drop, codes, string_bytes}
use Rattle.std.specs.List.{flat_map, join_by}
use Rattle.session_more.specs.Reports.{number_words}
use Rattle.session_more.proofs.text.push_numbers.Given as goal

abbrev pub invariant-loop-answer : goal.invariant-loop-answer
invariant-loop-answer l = string_bytes l.out ++ flat_map (λ a. codes ", " ++ number_words a) (drop l.answer-index l.others) ≡ string_bytes l.fn.out ++ join_by number_words (codes ", ") l.answers
