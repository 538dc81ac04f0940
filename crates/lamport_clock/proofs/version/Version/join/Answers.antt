use Rattle.std.proofs.Common.{refl, sym, ◌∙◌, arith}
use Rattle.lamport_clock.proofs.Joined.{joined_seen, entry_within, joined_version, joined_greater}
use Rattle.lamport_clock.proofs.version.Version.join.Goals as goal

pub returns-then-sees_all-clause-ok : goal.returns-then-sees_all-clause-ok
returns-then-sees_all-clause-ok c = sym (joined_seen _ _ (sym c.sees_all.ensures ∙ c.if-sees_all.true))

pub returns-then-sees_all-clause-greater : goal.returns-then-sees_all-clause-greater
returns-then-sees_all-clause-greater c = λ r. let w = entry_within c.args.o.now c.args.self.now r (sym c.sees_all.ensures ∙ c.if-sees_all.true) in omega (arith, w)

pub invariant_of-self-2 : goal.invariant_of-self-2
invariant_of-self-2 c = joined_version _ _ _ _ _ c.in_ok-join_entries.ensures.ok refl c.as_slice.ensures c.self.invariant c.o.invariant

pub returns-clause-greater : goal.returns-clause-greater
returns-clause-greater c = λ r. joined_greater _ _ _ _ _ _ _ c.in_ok-join_entries.ensures.ok refl c.as_slice.ensures c.self.view_is c.o.view_is c.o.invariant r
