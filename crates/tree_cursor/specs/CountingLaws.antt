-- What places that count keep.
use Rattle.std.proofs.lemmas.Option.{same_Some}
use Rattle.std.specs.Prelude.{ℕ, ◌≡◌, ◌+◌, ◌^◌, ◌<◌, ◌≤◌, Some, true, false, nat_lt}
use Rattle.std.proofs.Common.{ap, refl, arith}
use Rattle.std.proofs.lemmas.Bool.Decides.{nat_tests}
use Rattle.tree_cursor.specs.Places.{DimensionLaws}
use Rattle.tree_cursor.specs.declared.traits.Bias.{Bias}
use Rattle.tree_cursor.specs.declared.traits.Bias.TheVariants.{Left, Right}
use Rattle.tree_cursor.specs.Counting.{number_passes}

-- a number that each sum adds to
pub adding_laws : {S : Type 0} (empty : S) (op : S → S → S) (admits single : S → Type 0) (adds : S → ℕ) → adds empty ≡ 0 → ((a b : S) → adds (op a b) ≡ adds a + adds b) → DimensionLaws {P = ℕ} {S = S} empty op admits single (λ p q. p ≤ q) (λ p s. Some (p + adds s)) (λ p s. p + adds s < 2 ^ 64)
adding_laws empty op admits single adds none sum = record {
  nothing = λ p q e. omega (arith, same_Some _ _ e, none);
  parts = λ p q a b f g e. (p + adds a, refl, ap (λ (n : ℕ). Some n) (omega (arith, same_Some _ _ e, sum a b)));
  one = λ p a f s r. (p + adds a, refl);
  forward = λ p q a f e. omega (arith, same_Some _ _ e);
  fits_front = λ p a b f g h. omega (arith, sum a b);
  fits_back = λ p r a b f g h e. omega (arith, same_Some _ _ e, sum a b);
}

pub number_stays : (g p q : ℕ) (b : Bias) → number_passes g p b ≡ true → p ≤ q → number_passes g q b ≡ true
number_stays g p q Left e l = grind (arith, nat_tests)
number_stays g p q Right e l = grind (arith, nat_tests)

-- no sum without width has a part with one
pub above_none : (a b : ℕ) → nat_lt 0 (a + b) ≡ false → (nat_lt 0 a ≡ false) × (nat_lt 0 b ≡ false)
above_none a b h = (grind (arith, nat_tests), grind (arith, nat_tests))
