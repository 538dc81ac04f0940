use Rattle.std.proofs.Common.{sym, ◌∙◌, arith, subst}
use Rattle.std.proofs.lemmas.Bool.{leb-false}
use Rattle.lamport_clock.specs.Versions.{IsVersion}
use Rattle.lamport_clock.proofs.Entries.{IsVersion-put}
use Rattle.lamport_clock.proofs.version.Version.observe.Goals as goal

pub invariant_of-self-2 : goal.invariant_of-self-2
invariant_of-self-2 c =
    let unseen = leb-false _ _ (sym c.sees.ensures ∙ c.if-sees.false) in
    subst IsVersion (sym c.in_ok-put.ensures.ok) (IsVersion-put _ _ _ (omega arith) (omega (arith, unseen)) (omega arith) c.self.invariant)
