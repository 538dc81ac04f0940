-- What a pass leaves.
use Rattle.op_model.proofs.Elements.{each_map, each_unit}
use Rattle.op_model.specs.declared.operation.Operation.{Operation}
use Rattle.op_model.specs.Operations.{stamp_of}
use Rattle.op_model.specs.Histories.{operation_at, History}
use Rattle.op_model.specs.Steps.{older}
use Rattle.op_model.proofs.answers.Passed.{none_find}
use Rattle.op_model.specs.Rules.{Rules}
use Rattle.op_model.specs.Settled.{pass, State, Turn, turn}
use Rattle.op_model.proofs.settling.Settling.{append_good, pass_keeps, after, pass_is}
use Rattle.op_model.specs.Sorted.{Ascending}
use Rattle.op_model.specs.Settled.Turn.{Append, Drop, Stay, Refuse}
use Rattle.op_model.specs.Lawful.{Lawful}
use Rattle.op_model.proofs.histories.MoreLawful.{lawful_more}
use Rattle.op_model.proofs.settling.Passes.{pass_nil}
use Rattle.std.proofs.Common.{[], ◌≡◌, true, false, List, None, ◌∷◌, ◌++◌, sym, subst}
use Rattle.std.specs.List.{AllByRecursion}
use Rattle.lamport_clock.specs.Stamps.{same_stamp}
use Rattle.lamport_clock.proofs.Later.{later_differs}

pub not_found : (op : Operation) (w : List Operation) → AllByRecursion (λ (o : Operation). older op o ≡ true) w → operation_at w (stamp_of op) ≡ None
not_found op w u = none_find (λ o. same_stamp (stamp_of o) (stamp_of op)) w
    (each_map (λ (o : Operation). older op o ≡ true) (λ (o : Operation). same_stamp (stamp_of o) (stamp_of op) ≡ false) (λ o e. (later_differs (stamp_of op) (stamp_of o) e).1) w u)

-- ---- what passes keep

pub each_kept : (Q : Operation → Type 0) (l : Rules) (h : History) (w : List Operation) → AllByRecursion Q w → AllByRecursion Q (pass l h w).waiting
each_kept Q l h w e = (pass_keeps l (λ h. Unit {0}) Q (λ h op a b c. tt) h w tt e).1

pub pass_up : (l : Rules) (h : History) (w : List Operation) → Ascending older w → Ascending older (pass l h w).waiting
pass_up l h [] u = subst (λ (s : State). Ascending older s.waiting) (sym (pass_nil l h)) tt
pass_up l h (op ∷ w) u = subst (λ (s : State). Ascending older s.waiting) (sym (pass_is l h op w)) (go (turn l h op) (pass_up l (h ++ op ∷ []) w u.1) (pass_up l h w u.1))
  where
    go : (t : Turn) → Ascending older (pass l (h ++ op ∷ []) w).waiting → Ascending older (pass l h w).waiting → Ascending older (after t l h op w).waiting
    go Append a b = a
    go Drop a b = b
    go Stay a b = (each_kept (λ (o : Operation). older op o ≡ true) l h w u.0, b)
    go (Refuse f) a b = b

pub pass_lawful : (l : Rules) (h : History) (w : List Operation) → Lawful h → Lawful (pass l h w).history
pass_lawful l h w p = (pass_keeps l Lawful (λ op. Unit {0}) (λ g op a b e. lawful_more g op a (append_good l g op e)) h w p (each_unit w)).0
