use Rattle.std.proofs.Common.{◌≡◌, ◌+◌, ◌-◌, ◌≤◌, vec_len}
use Rattle.std.specs.Io.KnownBytes.{Consumes}
use Rattle.session_io.specs.Causes.{saturating_sum}
use Rattle.session_io.proofs.traffic.read_all.Given as goal

abbrev pub invariant-loop-all : goal.invariant-loop-all
invariant-loop-all g l = record {
  later : g.I.Source.faults l.fn.src ≤ g.I.Source.faults l.src;
  taken : Consumes (g.I.Source.left l.fn.src) (g.I.Source.left l.src) l.all.items;
  given : g.I.Source.given l.src ≡ saturating_sum (g.I.Source.given l.fn.src) (vec_len l.all);
  ends : g.I.Source.ends l.fn.src ≤ g.I.Source.ends l.src;
  within : vec_len l.all ≤ l.fn.limit + 1;
  piece : vec_len l.piece ≡ 65536;
}

abbrev pub decreases-loop-all : goal.decreases-loop-all
decreases-loop-all g l = (l.fn.limit + 1) - vec_len l.all
