-- The first stamp that stands before too, place by place.
use Rattle.std.proofs.Common.{◌≡◌, ℕ, ◌+◌, ◌<◌, Bool, true, false, cond, ◌||◌, List, length, get_or, take, refl, sym, ◌∙◌, ap}
use Rattle.std.specs.List.{list_any}
use Rattle.std.specs.Ordering.{is_eq}
use Rattle.lamport_clock.specs.declared.stamp.Lamport.{Lamport}
use Rattle.lamport_clock.specs.Stamps.{same_stamp, stamp_cmp}
use Rattle.lamport_clock.proofs.Order.{is_eq-same, same_sym}
use Rattle.op_model.proofs.answers.Repeats.{any_more}

cond_or : (a b : Bool) → cond a true b ≡ (a || b)
cond_or true b = refl
cond_or false b = refl

-- a set that gains the stamp has what stands before the next place
pub kept_on : (s : List Lamport) (i : ℕ) (d : Lamport) (old new : Lamport → Bool) → i < length s → ((t : Lamport) → old t ≡ list_any (same_stamp t) (take i s))
    → ((t : Lamport) → new t ≡ cond (is_eq (stamp_cmp (get_or s i d) t)) true (old t)) → (t : Lamport) → new t ≡ list_any (same_stamp t) (take (i + 1) s)
kept_on s i d old new l o n t =
    n t ∙ ap (λ (b : Bool). cond b true (old t)) (is_eq-same (get_or s i d) t ∙ same_sym (get_or s i d) t)
    ∙ ap (cond (same_stamp t (get_or s i d)) true) (o t) ∙ cond_or (same_stamp t (get_or s i d)) (list_any (same_stamp t) (take i s)) ∙ sym (any_more t s i d l)
