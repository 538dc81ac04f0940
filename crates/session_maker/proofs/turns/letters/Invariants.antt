use Rattle.std.proofs.Common.{◌≡◌, replicate, string_bytes}
use Rattle.session_maker.proofs.turns.letters.Given as goal

abbrev pub invariant-loop-i : goal.invariant-loop-i
invariant-loop-i l = string_bytes l.text ≡ replicate l._i l.letter
