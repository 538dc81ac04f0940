-- What waits stays in order, and no stamp waits twice.
use Rattle.std.proofs.Common.{[], ◌≡◌, true, sym, ap, ◌∙◌, List, ◌∷◌, false, inl, inr, ◌++◌, None, Bool}
use Rattle.std.specs.List.{AllByRecursion, filter}
use Rattle.std.proofs.lemmas.Bool.{cases_Bool}
use Rattle.lamport_clock.specs.Stamps.{later, same_stamp}
use Rattle.lamport_clock.specs.declared.stamp.Lamport.{Lamport}
use Rattle.lamport_clock.proofs.Later.{later_irrefl, later_trans, later_total}
use Rattle.lamport_clock.proofs.Order.{same_sym}
use Rattle.op_model.specs.declared.operation.Operation.{Operation}
use Rattle.op_model.specs.Operations.{stamp_of}
use Rattle.op_model.specs.Steps.{older}
use Rattle.op_model.proofs.Elements.{each_map, each_right, each_filter}
use Rattle.op_model.specs.Sorted.{Ascending, insert_by}
use Rattle.op_model.specs.Histories.{Distinct, operation_at}
use Rattle.op_model.proofs.order.Insertion.{each_insert, insert_past, insert_here}
use Rattle.op_model.specs.Answers.{any_stamp}
use Rattle.op_model.proofs.answers.Passed.{any_none, none_find}

pub older_unlike : (o p : Operation) → older o p ≡ true → stamp_of p ≡ stamp_of o → ⊥
older_unlike o p e s =
    let a : later (stamp_of o) (stamp_of o) ≡ true = ap (λ (t : Lamport). later t (stamp_of o)) (sym s) ∙ e in
    let b = later_irrefl (stamp_of o) in cc

-- no two of them have one stamp
pub waiting_distinct : (w : List Operation) → Ascending older w → Distinct w
waiting_distinct [] a = tt
waiting_distinct (o ∷ w) a = (each_map (λ p. older o p ≡ true) (λ p. stamp_of p ≡ stamp_of o → ⊥) (λ p e. older_unlike o p e) w a.0, waiting_distinct w a.1)

-- one with another stamp is put among them
pub insert_ascends : (op : Operation) (w : List Operation) → AllByRecursion (λ o. same_stamp (stamp_of o) (stamp_of op) ≡ false) w → Ascending older w → Ascending older (insert_by older op w)
insert_ascends op [] f a = (tt, tt)
insert_ascends op (y ∷ w) f a = elim (cases_Bool (older y op)) [
  | inl h ↦ rw (insert_past older op y w h) (each_insert (λ z. older y z ≡ true) older op w h a.0, insert_ascends op w f.1 a.1)
  | inr h ↦ (let xy : older op y ≡ true = later_total (stamp_of op) (stamp_of y) h (same_sym (stamp_of op) (stamp_of y) ∙ f.0) in
      rw (insert_here older op y w h) ((xy, each_map (λ z. older y z ≡ true) (λ z. older op z ≡ true) (λ z yz. later_trans (stamp_of z) (stamp_of y) (stamp_of op) yz xy) w a.0), (a.0, a.1)))
]

-- none of what waits has a stamp that is not there
pub unlike_waiting : (h w : List Operation) (op : Operation) → any_stamp (h ++ w) op ≡ false → AllByRecursion (λ o. same_stamp (stamp_of o) (stamp_of op) ≡ false) w
unlike_waiting h w op e = each_right (λ o. same_stamp (stamp_of o) (stamp_of op) ≡ false) h w (any_none (λ o. same_stamp (stamp_of o) (stamp_of op)) (h ++ w) e)

pub not_waiting : (h w : List Operation) (op : Operation) → any_stamp (h ++ w) op ≡ false → operation_at w (stamp_of op) ≡ None
not_waiting h w op e = none_find (λ o. same_stamp (stamp_of o) (stamp_of op)) w (unlike_waiting h w op e)

pub filter_ascends : (p : Operation → Bool) (w : List Operation) → Ascending older w → Ascending older (filter p w)
filter_ascends p [] u = tt
filter_ascends p (o ∷ w) u = elim (cases_Bool (p o)) [
  | inl y ↦ rw y (each_filter (λ (x : Operation). older o x ≡ true) p w u.0, filter_ascends p w u.1)
  | inr n ↦ rw n (filter_ascends p w u.1)
]
