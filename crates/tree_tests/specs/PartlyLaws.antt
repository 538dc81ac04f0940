-- What a number that counts the items in a set keeps.
use Rattle.std.specs.Prelude.{◌≡◌, ℕ, zero, suc, ◌+◌, ◌^◌, ◌<◌, ◌≤◌, Bool, true, false, cond, Option, Some, None, nat_eq}
use Rattle.std.proofs.Common.{ap, sym, refl, ◌∙◌, arith, ◌⊎◌, inl, inr}
use Rattle.std.proofs.lemmas.Bool.Decides.{nat_tests}
use Rattle.tree_cursor.specs.Places.{DimensionLaws}
use Rattle.std.proofs.lemmas.Option.{same_Some}
use Rattle.tree_tests.specs.Partly.{partly, chosen_count}

abbrev pair : {C : Type 0} → C → ℕ → Option (C × ℕ)
pair c n = Some (c, n)

module _ {C S : Type 0} (items : S → ℕ) (inside : C → S → ℕ) where
  -- the sum lies in the set whole, or not at all
  abbrev Went : C × ℕ → S → C × ℕ → Type 0
  Went p s q = (p.0 ≡ q.0) × (((inside p.0 s ≡ items s) × (q.1 ≡ p.1 + items s)) ⊎ ((inside p.0 s ≡ 0) × (q.1 ≡ p.1)))

  went_at : (p q : C × ℕ) (s : S) (all none : Bool) → nat_eq (inside p.0 s) (items s) ≡ all → nat_eq (inside p.0 s) 0 ≡ none → cond all (Some (p.0, p.1 + items s)) (cond none (Some (p.0, p.1)) None) ≡ Some q → Went p s q
  went_at p q s true none e f h = (ap (λ (u : C × ℕ). u.0) (same_Some _ _ h), inl (grind (arith, nat_tests), sym (ap (λ (u : C × ℕ). u.1) (same_Some _ _ h))))
  went_at p q s false true e f h = (ap (λ (u : C × ℕ). u.0) (same_Some _ _ h), inr (grind (arith, nat_tests), sym (ap (λ (u : C × ℕ). u.1) (same_Some _ _ h))))
  went_at p q s false false e f h = cc

  went : (p q : C × ℕ) (s : S) → partly items inside p s ≡ Some q → Went p s q
  went p q s h = went_at p q s (nat_eq (inside p.0 s) (items s)) (nat_eq (inside p.0 s) 0) refl refl h

  all_in : (p : C × ℕ) (s : S) → inside p.0 s ≡ items s → partly items inside p s ≡ Some (p.0, p.1 + items s)
  all_in p s h = let t : nat_eq (inside p.0 s) (items s) ≡ true = grind (arith, nat_tests) in ap (λ (b : Bool). cond {A = Option (C × ℕ)} b (Some (p.0, p.1 + items s)) (cond (nat_eq (inside p.0 s) 0) (Some (p.0, p.1)) None)) t

  none_at : (p : C × ℕ) (s : S) (all : Bool) → nat_eq (inside p.0 s) (items s) ≡ all → inside p.0 s ≡ 0 → cond all (pair p.0 (p.1 + items s)) (cond (nat_eq (inside p.0 s) 0) (pair p.0 p.1) None) ≡ pair p.0 p.1
  none_at p s true e h = let z : items s ≡ 0 = grind (arith, nat_tests) in ap (pair p.0) (omega (arith, z))
  none_at p s false e h = let t : nat_eq (inside p.0 s) 0 ≡ true = grind (arith, nat_tests) in ap (λ (b : Bool). cond {A = Option (C × ℕ)} b (Some (p.0, p.1)) None) t

  none_in : (p : C × ℕ) (s : S) → inside p.0 s ≡ 0 → partly items inside p s ≡ Some (p.0, p.1)
  none_in p s h = none_at p s (nat_eq (inside p.0 s) (items s)) refl h

  same : (p q : C × ℕ) (n : ℕ) → p.0 ≡ q.0 → q.1 ≡ n → Some (p.0, n) ≡ Some q
  same p q n e f = ap (pair p.0) (sym f) ∙ ap (λ (c : C). pair c q.1) e

  module _ (empty : S) (op : S → S → S) (admits single : S → Type 0) (none : items empty ≡ 0) (adds : (a b : S) → items (op a b) ≡ items a + items b) (joins : (c : C) (a b : S) → admits a → admits b → inside c (op a b) ≡ inside c a + inside c b) (few : (c : C) (a : S) → admits a → inside c a ≤ items a) (alone : (a : S) → single a → items a ≡ 1) where
    parts_of : (p q : C × ℕ) (a b : S) → admits a → admits b → p.0 ≡ q.0 → (((inside p.0 (op a b) ≡ items (op a b)) × (q.1 ≡ p.1 + items (op a b))) ⊎ ((inside p.0 (op a b) ≡ 0) × (q.1 ≡ p.1))) → (r : C × ℕ) × (partly items inside p a ≡ Some r) × (partly items inside r b ≡ Some q)
    parts_of p q a b f g e (inl h) =
        let x : inside p.0 a ≡ items a = omega (arith, h.0, adds a b, joins p.0 a b f g, few p.0 a f, few p.0 b g) in
        let y : inside p.0 b ≡ items b = omega (arith, h.0, adds a b, joins p.0 a b f g, few p.0 a f, few p.0 b g) in
        ((p.0, p.1 + items a), all_in p a x, all_in (p.0, p.1 + items a) b y ∙ same p q (p.1 + items a + items b) e (omega (arith, h.1, adds a b)))
    parts_of p q a b f g e (inr h) =
        let x : inside p.0 a ≡ 0 = omega (arith, h.0, joins p.0 a b f g) in
        let y : inside p.0 b ≡ 0 = omega (arith, h.0, joins p.0 a b f g) in
        ((p.0, p.1), none_in p a x, none_in (p.0, p.1) b y ∙ same p q p.1 e h.1)

    one_of : (p : C × ℕ) (a : S) (n : ℕ) → inside p.0 a ≡ n → n ≤ 1 → items a ≡ 1 → (q : C × ℕ) × (partly items inside p a ≡ Some q)
    one_of p a zero h l i = ((p.0, p.1), none_in p a h)
    one_of p a (suc n) h l i = ((p.0, p.1 + items a), all_in p a (omega arith))

    up_of : (p q : C × ℕ) (s : S) → Went p s q → (p.0 ≡ q.0) × (p.1 ≤ q.1)
    up_of p q s (e, inl h) = (e, omega (arith, h.1))
    up_of p q s (e, inr h) = (e, omega (arith, h.1))

    back_of : (p r : C × ℕ) (a b : S) → p.1 + items (op a b) < 2 ^ 64 → Went p a r → r.1 + items b < 2 ^ 64
    back_of p r a b h (e, inl w) = omega (arith, w.1, h, adds a b)
    back_of p r a b h (e, inr w) = omega (arith, w.1, h, adds a b)

    nothing_of : (p q : C × ℕ) → Went p empty q → q ≡ p
    nothing_of p q (e, inl h) = same_Some _ _ (sym (same p q p.1 e (omega (arith, h.1, none))))
    nothing_of p q (e, inr h) = same_Some _ _ (sym (same p q p.1 e h.1))

    pub partly_laws : DimensionLaws {P = C × ℕ} {S = S} empty op admits single (λ p q. (p.0 ≡ q.0) × (p.1 ≤ q.1)) (partly items inside) (λ p s. p.1 + items s < 2 ^ 64)
    partly_laws = record {
      nothing = λ p q e. nothing_of p q (went p q empty e);
      parts = λ p q a b f g e. let w = went p q (op a b) e in parts_of p q a b f g w.0 w.1;
      one = λ p a f s r. one_of p a (inside p.0 a) refl (omega (arith, few p.0 a f, alone a s)) (alone a s);
      forward = λ p q a f e. up_of p q a (went p q a e);
      fits_front = λ p a b f g h. omega (arith, h, adds a b);
      fits_back = λ p r a b f g h e. back_of p r a b h (went p r a e);
    }

pub chosen_sum : (odd : Bool) (i o j u : ℕ) → o ≤ i → u ≤ j → chosen_count odd (i + j) (o + u) ≡ chosen_count odd i o + chosen_count odd j u
chosen_sum true i o j u f g = refl
chosen_sum false i o j u f g = omega arith

pub chosen_few : (odd : Bool) (i o : ℕ) → o ≤ i → chosen_count odd i o ≤ i
chosen_few true i o f = f
chosen_few false i o f = omega arith
