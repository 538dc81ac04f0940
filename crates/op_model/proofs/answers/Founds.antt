-- What a history has under a stamp.
use Rattle.std.proofs.Common.{[], ◌≡◌, ◌⊎◌, true, false, inl, inr, ◌∷◌, refl, Bool, ◌||◌, ◌++◌, sym, ◌∙◌, ap, Option, cond, ◌&&◌}
use Rattle.std.proofs.lemmas.Bool.{cases_Bool, and_right}
use Rattle.std.specs.Prelude.{is_some}
use Rattle.std.specs.List.{list_any}
use Rattle.std.proofs.lemmas.List.Folds.{list_any-append}
use Rattle.lamport_clock.specs.Stamps.{same_stamp}
use Rattle.lamport_clock.specs.declared.stamp.Lamport.{Lamport}
use Rattle.lamport_clock.specs.Versions.{Entries, sees}
use Rattle.lamport_clock.proofs.Later.{same_stamp_eq}
use Rattle.op_model.specs.declared.operation.Operation.{Operation}
use Rattle.op_model.specs.Operations.{stamp_of, is_edit}
use Rattle.op_model.specs.Answers.{same_op, any_stamp}
use Rattle.op_model.proofs.answers.OwnVersion.{equal_stamps}
use Rattle.op_model.specs.Histories.{History, operation_at, has_edit, seen_history}

pub not_same : (o op : Operation) → same_stamp (stamp_of o) (stamp_of op) ≡ false → same_op o op ≡ false
not_same o op e = go (cases_Bool (same_op o op))
  where
    go : (same_op o op ≡ true) ⊎ (same_op o op ≡ false) → same_op o op ≡ false
    go (inl k) = let g = equal_stamps o op k in cc
    go (inr k) = k

pub found_any : (h : History) (t : Lamport) → is_some (operation_at h t) ≡ list_any (λ o. same_stamp (stamp_of o) t) h
found_any [] t = refl
found_any (o ∷ h) t = elim (cases_Bool (same_stamp (stamp_of o) t)) [
  | inl e ↦ rw e refl
  | inr e ↦ rw e (found_any h t)
]

pub found_either : (h w : History) (op : Operation) (a b : Option Operation) → a ≡ operation_at h (stamp_of op) → b ≡ operation_at w (stamp_of op) → (is_some a || is_some b) ≡ any_stamp (h ++ w) op
found_either h w op a b p q =
    ap (λ (x : Bool). x || is_some b) (ap is_some p ∙ found_any h (stamp_of op))
    ∙ ap (λ (x : Bool). any_stamp h op || x) (ap is_some q ∙ found_any w (stamp_of op))
    ∙ sym (list_any-append (λ o. same_stamp (stamp_of o) (stamp_of op)) h w)

-- a version sees an edit where it sees its stamp
pub seen_edit : (h : History) (v : Entries) (t : Lamport) → has_edit (seen_history h v) t ≡ (sees v t && has_edit h t)
seen_edit [] v t = sym (and_right (sees v t) false refl)
seen_edit (o ∷ h) v t = elim (cases_Bool (same_stamp (stamp_of o) t)) [
  | inl e ↦ (let s : sees v (stamp_of o) ≡ sees v t = ap (sees v) (same_stamp_eq (stamp_of o) t e) in
      ap (λ (b : Bool). has_edit (cond b (o ∷ seen_history h v) (seen_history h v)) t) s ∙ kept (sees v t) (seen_edit h v t))
  | inr e ↦ (let n : (is_edit o && same_stamp (stamp_of o) t) ≡ false = ap (λ (b : Bool). is_edit o && b) e ∙ and_right (is_edit o) false refl in
      dropped (sees v (stamp_of o)) n ∙ seen_edit h v t ∙ sym (ap (λ (b : Bool). sees v t && (b || has_edit h t)) n))
]
  where
    kept : (b : Bool) → has_edit (seen_history h v) t ≡ (b && has_edit h t) → has_edit (cond b (o ∷ seen_history h v) (seen_history h v)) t ≡ (b && (is_edit o && same_stamp (stamp_of o) t || has_edit h t))
    kept true e = ap (λ (z : Bool). is_edit o && same_stamp (stamp_of o) t || z) e
    kept false e = e

    dropped : (b : Bool) → (is_edit o && same_stamp (stamp_of o) t) ≡ false → has_edit (cond b (o ∷ seen_history h v) (seen_history h v)) t ≡ has_edit (seen_history h v) t
    dropped true n = ap (λ (z : Bool). z || has_edit (seen_history h v) t) n
    dropped false n = refl
