-- What is found by a stamp tells whether the stamp is an edit's.
use Rattle.std.proofs.Common.{◌≡◌, Bool, true, false, cond, ◌&&◌, ◌||◌, [], ◌∷◌, refl, sym, ◌∙◌, ap, inl, inr, Some}
use Rattle.std.proofs.lemmas.Bool.{cases_Bool, and_parts}
use Rattle.lamport_clock.specs.declared.stamp.Lamport.{Lamport}
use Rattle.lamport_clock.specs.Stamps.{same_stamp}
use Rattle.lamport_clock.proofs.Later.{same_stamp_eq}
use Rattle.std.proofs.Math.Bool.{and-true}
use Rattle.op_model.specs.Operations.{stamp_of, is_edit}
use Rattle.op_model.specs.Histories.{History, Distinct, operation_at, has_edit}
use Rattle.op_model.proofs.answers.Passed.{any_some}
use Rattle.applied_ops.specs.Placed.{is_edit_found}
use Rattle.op_model.proofs.Elements.{no_more, neither}

pub edit_found : (h : History) (t : Lamport) → Distinct h → is_edit_found (operation_at h t) ≡ has_edit h t
edit_found [] t d = refl
edit_found (o ∷ h) t d = elim (cases_Bool (same_stamp (stamp_of o) t)) [
  | inl e ↦ (let n : has_edit h t ≡ false = any_some (λ x. is_edit x && same_stamp (stamp_of x) t) (λ x. stamp_of x ≡ stamp_of o → ⊥) h
      (λ x k f. f (same_stamp_eq (stamp_of x) t (and_parts (is_edit x) (same_stamp (stamp_of x) t) k).1 ∙ sym (same_stamp_eq (stamp_of o) t e))) d.0 in
      ap (λ (b : Bool). is_edit_found (cond b (Some o) (operation_at h t))) e
      ∙ sym (ap (λ (b : Bool). (is_edit o && b) || has_edit h t) e ∙ no_more (is_edit o && true) (has_edit h t) n ∙ and-true (is_edit o)))
  | inr e ↦ ap (λ (b : Bool). is_edit_found (cond b (Some o) (operation_at h t))) e ∙ edit_found h t d.1
      ∙ sym (ap (λ (b : Bool). (is_edit o && b) || has_edit h t) e ∙ neither (is_edit o) (has_edit h t))
]
