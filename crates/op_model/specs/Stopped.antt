-- Settling that was stopped in a pass.
use Rattle.std.specs.Prelude.{◌≡◌, ℕ, suc, if◌then◌else◌, List, [], ◌∷◌, ◌++◌, take, drop}
use Rattle.lamport_clock.specs.declared.stamp.Lamport.{Lamport}
use Rattle.lamport_clock.specs.Stamps.{same_stamp}
use Rattle.op_model.specs.Rules.{Rules}
use Rattle.op_model.specs.declared.faults.OpFault.{OpFault}
use Rattle.op_model.specs.Settled.{State, pass}

-- a pass over what waits, by stamps, was stopped after the turns of the first k: the others still wait
abbrev pub stopped_pass : ℕ → Rules → State → State
stopped_pass k l s =
    let p : State = pass l s.history (take k s.waiting) in
    record { history = p.history; waiting = p.waiting ++ drop k s.waiting; refused = s.refused ++ p.refused }

-- settling was begun and stopped, once for each number, in a pass after that many turns
abbrev pub stopped_settling : List ℕ → Rules → State → State
stopped_settling [] l s = s
stopped_settling (k ∷ ks) l s = stopped_settling ks l (stopped_pass k l s)

-- the number of refusals of a stamp
abbrev pub times_refused : Lamport → List (Lamport × OpFault) → ℕ
times_refused t [] = 0
times_refused t (r ∷ rs) = if same_stamp r.0 t then suc (times_refused t rs) else times_refused t rs

-- both have applied the same in the same order, the same waits in both, and both refused each stamp as often, in any
-- order and with any faults
pub record AreAlike (s n : State) : Type 0 where
  pub history : n.history ≡ s.history
  pub waiting : n.waiting ≡ s.waiting
  pub refused : (t : Lamport) → times_refused t n.refused ≡ times_refused t s.refused
