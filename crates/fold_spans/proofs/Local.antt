-- Marks depend on the ranges that are near.
use Rattle.std.proofs.Common.{◌≡◌, ◌⊎◌, inl, inr, ℕ, zero, suc, ◌+◌, ◌≤◌, ◌<◌, ◌||◌, Bool, true, false, cond, List, [], ◌∷◌, refl, sym, ap, ◌∙◌, subst, arith}
use Rattle.std.proofs.lemmas.Bool.Decides.{nat_tests}
use Rattle.fold_spans.specs.Marks.{Range, holds, joins, is_folded, is_joined, mark, marks, Mark}
use Rattle.fold_spans.specs.Marks.Mark.{Plain, First, Inner}
use Rattle.fold_spans.specs.Laws.{In, IsApart, AreThose, MarksAreLocal}

-- two tests that hold together are one
both : (a b : Bool) → (a ≡ true → b ≡ true) → (b ≡ true → a ≡ true) → a ≡ b
both true b f g = sym (f refl)
both false true f g = g refl
both false false f g = refl

or_first : (a b : Bool) → a ≡ true → (a || b) ≡ true
or_first true b e = refl
or_first false b e = cc

or_second : (a b : Bool) → b ≡ true → (a || b) ≡ true
or_second true b e = refl
or_second false b e = e

or_cases : (a b : Bool) → (a || b) ≡ true → (a ≡ true) ⊎ (b ≡ true)
or_cases true b e = inl refl
or_cases false b e = inr e

-- a test that some range passes
module _ (f : Range → Bool) where
  abbrev pub any : List Range → Bool
  any [] = false
  any (r ∷ rs) = f r || any rs

  pub any_in : (rs : List Range) (r : Range) → In r rs → f r ≡ true → any rs ≡ true
  any_in [] r i e = absurd i
  any_in (q ∷ rs) r (inl i) e = or_first (f q) (any rs) (subst (λ (x : Range). f x ≡ true) i e)
  any_in (q ∷ rs) r (inr i) e = or_second (f q) (any rs) (any_in rs r i e)

  pub in_any : (rs : List Range) → any rs ≡ true → (r : Range) × In r rs × (f r ≡ true)
  in_any [] e = cc
  in_any (q ∷ rs) e = elim (or_cases (f q) (any rs) e) [
    | inl x ↦ (q, inl refl, x)
    | inr x ↦ let w = in_any rs x in (w.0, inr w.1, w.2)
  ]

folded_any : (rs : List Range) (i : ℕ) → is_folded rs i ≡ any (λ r. holds r i) rs
folded_any [] i = refl
folded_any (r ∷ rs) i = ap (λ (b : Bool). holds r i || b) (folded_any rs i)

joined_any : (rs : List Range) (i : ℕ) → is_joined rs i ≡ any (λ r. joins r i) rs
joined_any [] i = refl
joined_any (r ∷ rs) i = ap (λ (b : Bool). joins r i || b) (joined_any rs i)

same_any : (f : Range → Bool) (rs qs : List Range) → ((r : Range) → In r qs → In r rs) → ((r : Range) → In r rs → f r ≡ true → In r qs) → any f rs ≡ any f qs
same_any f rs qs s o = both (any f rs) (any f qs)
    (λ e. let w = in_any f rs e in any_in f qs w.0 (o w.0 w.1 w.2) w.2)
    (λ e. let w = in_any f qs e in any_in f rs w.0 (s w.0 w.1) w.2)

pub held : (r : Range) (j : ℕ) → holds r j ≡ true → (r.0 ≤ j) × (j < r.1)
held r j e = (grind (arith, nat_tests, e), grind (arith, nat_tests, e))

pub joined : (r : Range) (j : ℕ) → joins r j ≡ true → (r.0 < j) × (j < r.1)
joined r j e = (grind (arith, nat_tests, e), grind (arith, nat_tests, e))

pub same_mark : (rs qs : List Range) (j k : ℕ) → is_folded rs j ≡ is_folded qs k → is_joined rs j ≡ is_joined qs k → mark rs j ≡ mark qs k
same_mark rs qs j k a b = ap (λ (x : Bool). cond x Inner (cond (is_folded rs j) First Plain)) b ∙ ap (λ (x : Bool). cond (is_joined qs k) Inner (cond x First Plain)) a

-- of one byte
one_byte : (rs qs : List Range) (i n j : ℕ) → AreThose rs qs i n → i ≤ j → j < i + n → mark rs j ≡ mark qs j
one_byte rs qs i n j t a b = same_mark rs qs j j
    (folded_any rs j ∙ same_any (λ r. holds r j) rs qs t.some (λ r x e. go r (held r j e) (t.others r x)) ∙ sym (folded_any qs j))
    (joined_any rs j ∙ same_any (λ r. joins r j) rs qs t.some (λ r x e. let w = joined r j e in go r (let p = w.0 in omega arith, w.1) (t.others r x)) ∙ sym (joined_any qs j))
  where
    go : (r : Range) → (r.0 ≤ j) × (j < r.1) → In r qs ⊎ IsApart i n r → In r qs
    go r w (inl x) = x
    go r w (inr (inl x)) = let p = w.1 in absurd (omega arith)
    go r w (inr (inr x)) = let p = w.0 in absurd (omega arith)

run : (rs qs : List Range) (i n : ℕ) → AreThose rs qs i n → (m j : ℕ) → i ≤ j → j + m ≡ i + n → marks rs j m ≡ marks qs j m
run rs qs i n t zero j a e = refl
run rs qs i n t (suc m) j a e =
    ap (λ (x : Mark). x ∷ marks rs (suc j) m) (one_byte rs qs i n j t a (omega arith)) ∙ ap (λ (ms : List Mark). mark qs j ∷ ms) (run rs qs i n t m (suc j) (omega arith) (omega arith))

pub marks_are_local : MarksAreLocal
marks_are_local rs qs i n t = run rs qs i n t n i (omega arith) refl
