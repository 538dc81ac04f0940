use Rattle.std.proofs.Common.{inl, inr, refl, subst, sym}
use Rattle.session_replay.specs.Replay.{IsBad}
use Rattle.session_replay.proofs.top.bad.Goals as goal

pub returns-clause-prepared : goal.returns-clause-prepared
returns-clause-prepared c = λ task input le is. inr (inl (refl, le, subst (IsBad task input) (sym c.in_ok-bytes_of.ensures) is))
