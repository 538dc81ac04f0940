-- What is found by a stamp, and what the definitions look for in the whole list.
use Rattle.std.proofs.Common.{◌≡◌, Bool, false, cond, ◌&&◌, ◌||◌, [], ◌∷◌, ◌++◌, refl, sym, ◌∙◌, ap, inl, inr, Option, Some}
use Rattle.std.specs.List.{list_any}
use Rattle.std.proofs.lemmas.Bool.{cases_Bool, and_parts}
use Rattle.std.proofs.lemmas.List.Folds.{list_any-append}
use Rattle.lamport_clock.specs.declared.stamp.Lamport.{Lamport}
use Rattle.lamport_clock.specs.Stamps.{same_stamp}
use Rattle.lamport_clock.specs.Versions.{Entries, within}
use Rattle.lamport_clock.proofs.Later.{same_stamp_eq}
use Rattle.op_model.specs.declared.operation.Operation.{Operation}
use Rattle.op_model.specs.Operations.{stamp_of, version_of}
use Rattle.op_model.specs.Histories.{History, Distinct, operation_at}
use Rattle.op_model.specs.Answers.{any_equal, same_op}
use Rattle.op_model.proofs.answers.Passed.{any_some}
use Rattle.op_answers.specs.Verdicts.{equals, causes}
use Rattle.op_model.proofs.answers.OwnVersion.{equal_stamps}
use Rattle.op_model.proofs.Elements.{or_no, no_more}
use Rattle.op_model.proofs.answers.Founds.{not_same}

-- the one of the stamp is equal where any is
pub held : (h : History) (op : Operation) → Distinct h → equals (operation_at h (stamp_of op)) op ≡ list_any (λ o. same_op o op) h
held [] op d = refl
held (o ∷ h) op d = elim (cases_Bool (same_stamp (stamp_of o) (stamp_of op))) [
  | inl e ↦ (let n : list_any (λ x. same_op x op) h ≡ false = any_some (λ x. same_op x op) (λ x. stamp_of x ≡ stamp_of o → ⊥) h
      (λ x k f. f (same_stamp_eq (stamp_of x) (stamp_of op) (equal_stamps x op k) ∙ sym (same_stamp_eq (stamp_of o) (stamp_of op) e))) d.0 in
      ap (λ (b : Bool). equals (cond b (Some o) (operation_at h (stamp_of op))) op) e ∙ sym (no_more (same_op o op) (list_any (λ x. same_op x op) h) n))
  | inr e ↦ ap (λ (b : Bool). equals (cond b (Some o) (operation_at h (stamp_of op))) op) e ∙ held h op d.1 ∙ sym (or_no (same_op o op) (list_any (λ x. same_op x op) h) (not_same o op e))
]

-- the two that are found of a stamp, in one list and in another: one is equal, or is there, where that is so of any in both
pub held_both : (h w : History) (op : Operation) (a b : Option Operation) → Distinct h → Distinct w → a ≡ operation_at h (stamp_of op) → b ≡ operation_at w (stamp_of op) → (equals a op || equals b op) ≡ any_equal (h ++ w) op
held_both h w op a b d e p q =
    ap (λ (x : Bool). x || equals b op) (ap (λ (o : Option Operation). equals o op) p ∙ held h op d)
    ∙ ap (λ (x : Bool). any_equal h op || x) (ap (λ (o : Option Operation). equals o op) q ∙ held w op e)
    ∙ sym (list_any-append (λ o. same_op o op) h w)

-- the one of the stamp is a cause that the version has seen
pub caused : (h : History) (t : Lamport) (v : Entries) → Distinct h → causes (operation_at h t) v ≡ list_any (λ o. same_stamp (stamp_of o) t && within (version_of o) v) h
caused [] t v d = refl
caused (o ∷ h) t v d = elim (cases_Bool (same_stamp (stamp_of o) t)) [
  | inl e ↦ (let n : list_any (λ x. same_stamp (stamp_of x) t && within (version_of x) v) h ≡ false = any_some (λ x. same_stamp (stamp_of x) t && within (version_of x) v) (λ x. stamp_of x ≡ stamp_of o → ⊥) h
      (λ x k f. f (same_stamp_eq (stamp_of x) t (and_parts (same_stamp (stamp_of x) t) (within (version_of x) v) k).0 ∙ sym (same_stamp_eq (stamp_of o) t e))) d.0 in
      ap (λ (b : Bool). causes (cond b (Some o) (operation_at h t)) v) e ∙ sym (ap (λ (b : Bool). (b && within (version_of o) v) || list_any (λ x. same_stamp (stamp_of x) t && within (version_of x) v) h) e
      ∙ no_more (within (version_of o) v) (list_any (λ x. same_stamp (stamp_of x) t && within (version_of x) v) h) n))
  | inr e ↦ ap (λ (b : Bool). causes (cond b (Some o) (operation_at h t)) v) e ∙ caused h t v d.1
      ∙ sym (ap (λ (b : Bool). (b && within (version_of o) v) || list_any (λ x. same_stamp (stamp_of x) t && within (version_of x) v) h) e)
]
