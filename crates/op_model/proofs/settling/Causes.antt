-- What an operation misses.
use Rattle.std.proofs.Common.{ℕ, [], ◌≡◌, inl, inr, ◌<◌, false, ◌&&◌, ◌∷◌, ap, arith, subst, Bool, true, cond, refl, sym, Some, slice_get}
use Rattle.std.specs.Prelude.{nat_le, nat_lt, unwrap_or}
use Rattle.std.proofs.lemmas.Bool.{false_from_ne_true, leb-true, and_right, ltb-true}
use Rattle.lamport_clock.specs.Versions.{Entries, entry, within, first_unseen, IsVersion}
use Rattle.lamport_clock.specs.Stamps.{later}
use Rattle.op_model.specs.Sorted.{Member}

pub misses : (have v : Entries) (e : ℕ × ℕ) → Member e v → entry have e.0 < e.1 → within v have ≡ false
misses have [] e among past = absurd among
misses have (x ∷ v) e (inl q) past =
    let here : nat_le x.1 (entry have x.0) ≡ false = subst (λ (y : ℕ × ℕ). nat_le y.1 (entry have y.0) ≡ false) q (false_from_ne_true _ (λ le. let bad = leb-true e.1 (entry have e.0) le in omega arith)) in
    ap (λ b. b && within v have) here
misses have (x ∷ v) e (inr among) past = and_right (nat_le x.1 (entry have x.0)) (within v have) (misses have v e among past)

-- ---- what is listed is a cause

pub missing_listed : (have v : Entries) (e : ℕ × ℕ) → first_unseen have v ≡ Some e → (0 < e.1) × Member e v
missing_listed have [] e found = absurd (cc found)
missing_listed have (x ∷ v) e found = go (nat_lt (entry have x.0) x.1) refl found (missing_listed have v e)
  where
    go : (b : Bool) → nat_lt (entry have x.0) x.1 ≡ b → cond b (Some x) (first_unseen have v) ≡ Some e → (first_unseen have v ≡ Some e → (0 < e.1) × Member e v) → (0 < e.1) × Member e (x ∷ v)
    go true q is later =
        let same : x ≡ e = ap (λ o. unwrap_or o x) is in
        (subst (λ (y : ℕ × ℕ). 0 < y.1) same (omega (arith, ltb-true (entry have x.0) x.1 q)), inl (sym same))
    go false q is later = let rest = later is in (rest.0, inr rest.1)

pub first_listed : (v : Entries) (e : ℕ × ℕ) → IsVersion v → slice_get v 0 ≡ Some e → (0 < e.1) × Member e v
first_listed [] e kept first = absurd (cc first)
first_listed (x ∷ v) e kept first =
    let same : x ≡ e = ap (λ o. unwrap_or o x) first in
    (subst (λ (y : ℕ × ℕ). 0 < y.1) same kept.2, inl (sym same))
