-- The order of stamps is total and strict.
use Rattle.std.proofs.Common.{◌≡◌, true, arith, false, inl, inr, not, ◌<◌, ◌≤◌, subst}
use Rattle.std.proofs.lemmas.Bool.Decides.{nat_tests}
use Rattle.std.proofs.lemmas.Bool.{eqb-true, and_parts, cases_Bool}
use Rattle.lamport_clock.specs.declared.stamp.Lamport.{Lamport}
use Rattle.lamport_clock.specs.Stamps.{later, same_stamp}

pub later_trans : (s t u : Lamport) → later s t ≡ true → later t u ≡ true → later s u ≡ true
unfolding later same_stamp
later_trans s t u p q = grind (arith, nat_tests)

pub later_irrefl : (s : Lamport) → later s s ≡ false
unfolding later same_stamp
later_irrefl s = grind (arith, nat_tests)

pub later_total : (s t : Lamport) → later s t ≡ false → same_stamp s t ≡ false → later t s ≡ true
unfolding later same_stamp
later_total s t p q = grind (arith, nat_tests)

pub later_differs : (s t : Lamport) → later t s ≡ true → (same_stamp s t ≡ false) × (same_stamp t s ≡ false)
unfolding later same_stamp
later_differs s t e = (grind (arith, nat_tests), grind (arith, nat_tests))

pub stamp_path : (s t : Lamport) → s.value ≡ t.value → s.replica ≡ t.replica → s ≡ t
stamp_path s t e f = λ i. record { value = e i; replica = f i }

pub same_stamp_eq : (s t : Lamport) → same_stamp s t ≡ true → s ≡ t
unfolding later same_stamp
same_stamp_eq s t e = let ab = and_parts _ _ e in
    stamp_path s t (eqb-true _ _ ab.0) (eqb-true _ _ ab.1)

pub same_stamp_refl : (s : Lamport) → same_stamp s s ≡ true
unfolding same_stamp
same_stamp_refl s = grind (arith, nat_tests)

pub other_stamp : (s t : Lamport) → (s ≡ t → ⊥) → same_stamp s t ≡ false
other_stamp s t n = elim (cases_Bool (same_stamp s t)) [ inl e ↦ absurd (n (same_stamp_eq s t e)) | inr e ↦ e ]

pub not_later_trans : (s t u : Lamport) → not (later t s) ≡ true → not (later u t) ≡ true → not (later u s) ≡ true
unfolding later
not_later_trans s t u h g = grind (arith, nat_tests)

pub not_later_total : (s t : Lamport) → not (later t s) ≡ false → not (later s t) ≡ true
unfolding later
not_later_total s t h = grind (arith, nat_tests)

pub one_way : (t a : Lamport) → later t a ≡ true → later a t ≡ false
unfolding later
one_way t a h = grind (arith, nat_tests)

pub no_both : (s t : Lamport) → later s t ≡ true → later t s ≡ true → ⊥
no_both s t h g = let n = one_way s t h in cc

pub same_of_neither : (s t : Lamport) → not (later t s) ≡ true → later s t ≡ false → same_stamp t s ≡ true
unfolding later same_stamp
same_of_neither s t h l = grind (arith, nat_tests)

pub later_strictly : (s t : Lamport) → not (later t s) ≡ true → (t ≡ s → ⊥) → later s t ≡ true
later_strictly s t h n = elim (cases_Bool (later s t))
    [ inl l ↦ l | inr l ↦ absurd (n (same_stamp_eq t s (same_of_neither s t h l))) ]

pub later_of : (t u : Lamport) → u.value < t.value → later t u ≡ true
unfolding later
later_of t u h = grind (arith, nat_tests)

pub not_newer : (t u : Lamport) → not (later t u) ≡ true → later t u ≡ true → ⊥
not_newer t u h g = cc

pub not_below : (s t : Lamport) → later s t ≡ true → t.value ≤ s.value
unfolding later
not_below s t e = grind (arith, nat_tests)

pub later_down : (t u a : Lamport) → later t u ≡ true → later a u ≡ false → later t a ≡ true
unfolding later
later_down t u a h e = grind (arith, nat_tests)

pub later_up : (e r t : Lamport) → later e t ≡ true → later e r ≡ false → later r t ≡ true
unfolding later
later_up e r t h g = grind (arith, nat_tests)

pub later_apart : (s t : Lamport) → later s t ≡ true → t ≡ s → ⊥
later_apart s t h e = let g : later s s ≡ true = subst (λ (x : Lamport). later s x ≡ true) e h in let i = later_irrefl s in cc
