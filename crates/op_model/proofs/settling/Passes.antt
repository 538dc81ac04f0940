-- Passes, turn by turn.
use Rattle.std.proofs.Common.{[], ◌≡◌, refl, false, List, ◌∷◌, ◌∙◌, ap, true, ◌++◌, ◌≤◌, length, arith, Bool, cond, eqb}
use Rattle.std.specs.List.{AllByRecursion}
use Rattle.std.proofs.lemmas.List.{length-append, append-nil}
use Rattle.op_model.specs.Rules.{Rules}
use Rattle.op_model.specs.Histories.{History, version}
use Rattle.op_model.specs.Settled.{pass, turn, Turn, with_waiting, settle as settled_at, passes, State}
use Rattle.op_model.specs.declared.operation.Operation.{Operation}
use Rattle.op_model.specs.Operations.{version_of}
use Rattle.op_model.specs.Settled.Turn.{Stay}
use Rattle.op_model.proofs.settling.AllApplied.{AllMiss}
use Rattle.op_model.proofs.settling.Settling.{after, pass_is, stay_misses, settled_keeps}
use Rattle.op_model.specs.Sorted.{Ascending}
use Rattle.op_model.specs.Steps.{older}
use Rattle.op_model.proofs.Elements.{each_right, each_unit}
use Rattle.lamport_clock.specs.Versions.{within}

pub pass_nil : (l : Rules) (h : History) → pass l h [] ≡ record { history = h; waiting = []; refused = [] }
unfolding pass
pass_nil l h = refl

-- ---- a pass over what misses a cause

pub turn_missing : (l : Rules) (h : History) (op : Operation) → within (version_of op) (version h) ≡ false → turn l h op ≡ Stay
turn_missing l h op e = rw e refl

pub pass_missing : (l : Rules) (h : History) (w : List Operation) → AllMiss h w → pass l h w ≡ record { history = h; waiting = w; refused = [] }
pass_missing l h [] m = pass_nil l h
pass_missing l h (op ∷ w) m = pass_is l h op w ∙ ap (λ (t : Turn). after t l h op w) (turn_missing l h op m.0) ∙ ap (with_waiting op) (pass_missing l h w m.1)

-- ---- stamps ascend

pub older_around : (v : List Operation) (op : Operation) (w : List Operation) → Ascending older (v ++ op ∷ w) → AllByRecursion (λ (o : Operation). older o op ≡ true) v × AllByRecursion (λ (o : Operation). older op o ≡ true) w
older_around [] op w u = (tt, u.0)
older_around (o ∷ v) op w u = let r = older_around v op w u.1 in (((each_right (λ (x : Operation). older o x ≡ true) v (op ∷ w) u.0).0, r.0), r.1)

pub not_stay : (l : Rules) (h : History) (op : Operation) → within (version_of op) (version h) ≡ true → turn l h op ≡ Stay → ⊥
not_stay l h op w e = let n = stay_misses l h op e in cc

-- ---- how much settling applies

pub settling_grows : (l : Rules) (h : History) (w : List Operation) → length h ≤ length (settled_at l h w).history
settling_grows l h w = (settled_keeps l (λ (g : History). length h ≤ length g) (λ (op : Operation). Unit {0}) (λ g op p q e. let n = length-append g (op ∷ []) in omega arith) h w (omega arith) (each_unit w)).0

-- a state after what another refused
abbrev pub after_refused : State → State → State
after_refused s n = record { history = n.history; waiting = n.waiting; refused = s.refused ++ n.refused }

-- passes, two at most
pub passes_one : (l : Rules) (h : History) (w : List Operation) → passes 1 l h w ≡ pass l h w
unfolding passes
passes_one l h w = go (eqb (length (pass l h w).history) (length h))
  where
    go : (b : Bool) → cond b (pass l h w) (after_refused (pass l h w) (record { history = (pass l h w).history; waiting = (pass l h w).waiting; refused = [] })) ≡ pass l h w
    go true = refl
    go false = ap (λ z. record { history = (pass l h w).history; waiting = (pass l h w).waiting; refused = z }) (append-nil (pass l h w).refused)

pub passes_two : (l : Rules) (h : History) (w : List Operation) → passes 2 l h w ≡ cond (eqb (length (pass l h w).history) (length h)) (pass l h w) (after_refused (pass l h w) (pass l (pass l h w).history (pass l h w).waiting))
unfolding passes
passes_two l h w = ap (λ (r : State). cond (eqb (length (pass l h w).history) (length h)) (pass l h w) (after_refused (pass l h w) r)) (passes_one l (pass l h w).history (pass l h w).waiting)
