-- The orders of siblings and of paths are total, and cells that their test calls the same are one.
use Rattle.std.proofs.Common.{◌≡◌, ◌<◌, ◌⊎◌, Bool, List, [], ◌∷◌, refl, sym, ◌∙◌, subst, inl, inr, true, false, cond, ltb, arith}
use Rattle.std.proofs.lemmas.Bool.{eqb-true, and_parts, or_cases, ltb-true, lt-ltb, cases_Bool}
use Rattle.std.proofs.lemmas.Bool.Decides.{nat_tests}
use Rattle.lamport_clock.specs.declared.stamp.Lamport.{Lamport}
use Rattle.lamport_clock.specs.Stamps.{later, same_stamp}
use Rattle.lamport_clock.proofs.Later.{later_trans, same_stamp_eq}
use Rattle.op_model.specs.Cells.{Cell, same_cell, sibling_first, path_before}

cell_path : (a b : Cell) → a.stamp ≡ b.stamp → a.k ≡ b.k → a ≡ b
cell_path s t e f = λ i. record { stamp = e i; k = f i }

pub same_cell_eq : (a b : Cell) → same_cell a b ≡ true → a ≡ b
unfolding later same_stamp same_cell sibling_first
same_cell_eq a b e = let ab = and_parts _ _ e in
    cell_path a b (same_stamp_eq _ _ ab.0) (eqb-true _ _ ab.1)

pub same_cell_refl : (a : Cell) → same_cell a a ≡ true
unfolding later same_stamp same_cell sibling_first
same_cell_refl a = grind (arith, nat_tests)

pub first_by_stamp : (a b : Cell) → later a.stamp b.stamp ≡ true → sibling_first a b ≡ true
unfolding later same_stamp same_cell sibling_first
first_by_stamp a b h = rw h

pub first_by_k : (a b : Cell) → a.stamp ≡ b.stamp → ltb a.k b.k ≡ true → sibling_first a b ≡ true
unfolding later same_stamp same_cell sibling_first
first_by_k a b e h = rw (e, h) (grind (arith, nat_tests))

pub first_cases : (a b : Cell) → sibling_first a b ≡ true → (later a.stamp b.stamp ≡ true) ⊎ ((a.stamp ≡ b.stamp) × (a.k < b.k))
unfolding later same_stamp same_cell sibling_first
first_cases a b h = elim (or_cases _ _ h) [
  | inl l ↦ inl l
  | inr r ↦
      inr (let e = and_parts _ _ r in (same_stamp_eq _ _ e.0, ltb-true _ _ e.1))
]

pub first_trans : (a b c : Cell) → sibling_first a b ≡ true → sibling_first b c ≡ true → sibling_first a c ≡ true
first_trans a b c p q = elim (first_cases a b p) [
  | inl l ↦ elim (first_cases b c q) [
    | inl m ↦ first_by_stamp a c (later_trans _ _ _ l m)
    | inr m ↦ first_by_stamp a c (subst (λ (s : Lamport). later a.stamp s ≡ true) m.0 l)
  ]
  | inr l ↦ elim (first_cases b c q) [
    | inl m ↦ first_by_stamp a c (subst (λ (s : Lamport). later s c.stamp ≡ true) (sym l.0) m)
    | inr m ↦ first_by_k a c (l.0 ∙ m.0) (lt-ltb _ _ (omega arith))
  ]
]

pub first_apart : (a b : Cell) → sibling_first a b ≡ true → same_cell a b ≡ false
unfolding later same_stamp same_cell sibling_first
first_apart a b p = grind (arith, nat_tests)

pub first_one_way : (a b : Cell) → sibling_first a b ≡ true → sibling_first b a ≡ false
unfolding later same_stamp same_cell sibling_first
first_one_way a b p = grind (arith, nat_tests)

pub first_total : (a b : Cell) → same_cell a b ≡ false → sibling_first a b ≡ false → sibling_first b a ≡ true
unfolding later same_stamp same_cell sibling_first
first_total a b p q = grind (arith, nat_tests)

pub same_cell_sym : (a b : Cell) → same_cell a b ≡ same_cell b a
unfolding later same_stamp same_cell sibling_first
same_cell_sym a b = grind (arith, nat_tests)

cond_cases : (s x f : Bool) → cond s x f ≡ true → ((s ≡ true) × (x ≡ true)) ⊎ ((s ≡ false) × (f ≡ true))
cond_cases true x f h = inl (refl, h)
cond_cases false x f h = inr (refl, h)

step_trans : (a b c : Cell) (x y z : Bool) → (x ≡ true → y ≡ true → z ≡ true)
    → cond (same_cell a b) x (sibling_first a b) ≡ true → cond (same_cell b c) y (sibling_first b c) ≡ true
    → cond (same_cell a c) z (sibling_first a c) ≡ true
step_trans a b c x y z h p q = elim (cond_cases (same_cell a b) x (sibling_first a b) p) [
  | inl l ↦ (let e : a ≡ b = same_cell_eq a b l.0 in rw e
      (elim (cond_cases (same_cell b c) y (sibling_first b c) q) [
        | inl m ↦ (let zt : z ≡ true = h l.1 m.1 in rw (m.0, zt))
        | inr m ↦ rw (m.0, m.1)
      ]))
  | inr l ↦ elim (cond_cases (same_cell b c) y (sibling_first b c) q) [
    | inl m ↦ (let e : b ≡ c = same_cell_eq b c m.0 in rw (← e) (rw (l.0, l.1)))
    | inr m ↦ (let f : sibling_first a c ≡ true = first_trans a b c l.1 m.1 in
        let g : same_cell a c ≡ false = first_apart a c f in rw (g, f))
  ]
]

pub path_trans : (p q r : List Cell) → path_before p q ≡ true → path_before q r ≡ true → path_before p r ≡ true
path_trans [] q r h g = refl
path_trans (a ∷ p) [] r h g = cc
path_trans (a ∷ p) (b ∷ q) [] h g = cc
path_trans (a ∷ p) (b ∷ q) (c ∷ r) h g = step_trans a b c _ _ _ (path_trans p q r) h g

pub path_refl : (p : List Cell) → path_before p p ≡ true
path_refl [] = refl
path_refl (a ∷ p) = let e = same_cell_refl a in rw e (path_refl p)

step_total : (a b : Cell) (x y : Bool) → (x ≡ false → y ≡ true)
    → cond (same_cell a b) x (sibling_first a b) ≡ false → cond (same_cell b a) y (sibling_first b a) ≡ true
step_total a b x y h p = elim (cases_Bool (same_cell a b)) [
  | inl e ↦ (let f : same_cell b a ≡ true = sym (same_cell_sym a b) ∙ e in rw f (h (rw e at p)))
  | inr e ↦ (let f : same_cell b a ≡ false = sym (same_cell_sym a b) ∙ e in rw f (first_total a b e (rw e at p)))
]

pub path_total : (p q : List Cell) → path_before p q ≡ false → path_before q p ≡ true
path_total [] q h = cc
path_total (a ∷ p) [] h = refl
path_total (a ∷ p) (b ∷ q) h = step_total a b _ _ (path_total p q) h

step_both : (a b : Cell) (x y : Bool) → cond (same_cell a b) x (sibling_first a b) ≡ true → cond (same_cell b a) y (sibling_first b a) ≡ true
    → (same_cell a b ≡ true) × (x ≡ true) × (y ≡ true)
step_both a b x y p q = elim (cases_Bool (same_cell a b)) [
  | inl e ↦ (let f : same_cell b a ≡ true = sym (same_cell_sym a b) ∙ e in (e, rw e at p, rw f at q))
  | inr e ↦ (let f : same_cell b a ≡ false = sym (same_cell_sym a b) ∙ e in
      let u : sibling_first a b ≡ true = rw e at p in
      let v : sibling_first b a ≡ true = rw f at q in
      let w : sibling_first b a ≡ false = first_one_way a b u in cc)
]

pub path_antisym : (p q : List Cell) → path_before p q ≡ true → path_before q p ≡ true → p ≡ q
path_antisym [] [] h g = refl
path_antisym [] (b ∷ q) h g = cc
path_antisym (a ∷ p) [] h g = cc
path_antisym (a ∷ p) (b ∷ q) h g = let t = step_both a b _ _ h g in
    let e : a ≡ b = same_cell_eq a b t.0 in
    let f : p ≡ q = path_antisym p q t.1 t.2 in cc
