use Rattle.std.proofs.Common.{inl, refl}
use Rattle.session_replay.proofs.top.done.Goals as goal

pub returns-clause-prepared : goal.returns-clause-prepared
returns-clause-prepared c = λ task input le does. inl (refl, le, does)
