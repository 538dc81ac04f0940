-- Ids that rise.
use Rattle.std.proofs.Common.{ℕ, [], List, ◌∷◌, ◌≡◌, ◌++◌, sym, subst, append_assoc, false, refl, true, ap, inl, inr}
use Rattle.std.specs.Ordering.{is_lt, ordering_reverse, nat_cmp}
use Rattle.std.specs.declared.cmp.Ordering.{Ordering}
use Rattle.std.specs.declared.cmp.Ordering.TheVariants.{Less, Equal, Greater}
use Rattle.std.specs.Cmp.Lexicographic.{slice_cmp, nat_list_cmp_total}
use Rattle.std.proofs.lemmas.Cmp.{tied_itself}
use Rattle.fragments.specs.declared.fragment.Fragment.{Fragment}
use Rattle.fragments.specs.Stand.{Rise}
use Rattle.fragments.specs.Summaries.{id_less}
use Rattle.locators.specs.Locator.{IsLess, EndsAboveZero, least_digits}
use Rattle.op_model.specs.Sorted.{Member}

unfoldable pub from_low : List ℕ → List Fragment → List ℕ
from_low low [] = low
from_low low (f ∷ fs) = from_low f.id fs

-- a fragment replaced by one with its id
pub rises_same : (low : List ℕ) (pre r : List Fragment) (f g : Fragment) → Rise low (pre ++ f ∷ r) → g.id ≡ f.id → Rise low (pre ++ g ∷ r)
rises_same low [] r f g h e = subst (λ (i : List ℕ). IsLess low i × EndsAboveZero i × Rise i r) (sym e) h
rises_same low (x ∷ pre) r f g h e = (h.0, h.1, rises_same x.id pre r f g h.2 e)

pub moved_on : (pre r : List Fragment) (g : Fragment) → Rise least_digits (pre ++ g ∷ r) → Rise least_digits ((pre ++ g ∷ []) ++ r)
moved_on pre r g h = subst (Rise least_digits) (sym (append_assoc pre (g ∷ []) r)) h

-- ---- ids

not_self_at : (o : Ordering) → o ≡ ordering_reverse o → is_lt o ≡ false
not_self_at Less e = cc
not_self_at Equal e = refl
not_self_at Greater e = refl

pub not_self : (a : List ℕ) → id_less a a ≡ false
not_self a = not_self_at (slice_cmp nat_cmp a a) (nat_list_cmp_total.antisymm a a)

pub less_is : (a b : List ℕ) → IsLess a b → id_less a b ≡ true
less_is a b e = ap is_lt e

-- ---- the start

pub less_self : (a : List ℕ) → IsLess a a → ⊥
less_self a h = let e = tied_itself nat_list_cmp_total a in cc

pub rise_above : (low : List ℕ) (fs : List Fragment) (g : Fragment) → Rise low fs → Member g fs → IsLess low g.id
rise_above low [] g h m = absurd m
rise_above low (f ∷ fs) g h (inl e) = subst (λ (z : Fragment). IsLess low z.id) (sym e) h.0
rise_above low (f ∷ fs) g h (inr m) = nat_list_cmp_total.trans low f.id g.id h.0 (rise_above f.id fs g h.2 m)
