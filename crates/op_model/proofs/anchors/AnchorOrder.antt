-- Anchors stand in their order.
use Rattle.std.proofs.Common.{◌≡◌, ℕ, zero, suc, ◌≤◌, ◌-◌, ◌⊎◌, Bool, List, [], ◌∷◌, length, filter, take, refl, sym, ◌∙◌, ap, inl, inr, true, false, cond, eqb, ltb, arith, take_all, ◌++◌, Some, ◌<◌, ◌&&◌, None}
use Rattle.std.proofs.lemmas.Bool.{cases_Bool, eqb-true, ltb-true, and_parts}
use Rattle.std.proofs.lemmas.List.{length-map}
use Rattle.std.specs.Ordering.{nat_cmp, ordering_then}
use Rattle.std.specs.declared.cmp.Ordering.{Ordering}
use Rattle.std.specs.declared.cmp.Ordering.TheVariants.{Less, Equal}
use Rattle.std.specs.Cmp.{IsTotalOrder}
use Rattle.std.proofs.lemmas.Cmp.{nat_cmp_total, on_total, then_total}
use Rattle.std.proofs.lemmas.Bool.Decides.{nat_tests}
use Rattle.std.specs.Prelude.{slice_get}
use Rattle.std.proofs.lemmas.Option.{same_Some, none-some}
use Rattle.op_model.specs.Histories.{History}
use Rattle.op_model.specs.Cells.{Cell, PathCell, same_cell, seq, cells}
use Rattle.op_model.specs.Shown.{shows}
use Rattle.op_model.specs.declared.anchor.Anchor.{Anchor}
use Rattle.op_model.specs.Anchors.{cells_upto, cells_before, place, gap, compare_anchors, is_known, known_order, known_place}
use Rattle.op_model.specs.declared.anchor.Anchor.TheVariants.{Least, Greatest, At}
use Rattle.op_model.specs.declared.anchor.Bias.TheVariants.{Left, Right}
use Rattle.op_model.proofs.anchors.AnchorPlaces.{number}
use Rattle.op_model.proofs.answers.MadeGood.{text_number}

pub upto_take : (s : List Cell) (c : Cell) → cells_upto s c ≡ take (length (cells_upto s c)) s
upto_take [] c = refl
upto_take (d ∷ s) c = elim (same_cell d c) as (λ b. cond b (d ∷ []) (d ∷ cells_upto s c) ≡ take (length (cond b (d ∷ []) (d ∷ cells_upto s c))) (d ∷ s))
    [ true ↦ refl | false ↦ ap (λ r. d ∷ r) (upto_take s c) ]

pub before_take : (s : List Cell) (c : Cell) → cells_before s c ≡ take (length (cells_before s c)) s
before_take [] c = refl
before_take (d ∷ s) c = elim (same_cell d c) as (λ b. cond b [] (d ∷ cells_before s c) ≡ take (length (cond b [] (d ∷ cells_before s c))) (d ∷ s))
    [ true ↦ refl | false ↦ ap (λ r. d ∷ r) (before_take s c) ]

pub take_number : (f : Cell → Bool) (m n : ℕ) (s : List Cell) → m ≤ n → number f (take m s) ≤ number f (take n s)
take_number f zero n s h = omega arith
take_number f (suc m) zero s h = absurd (omega arith)
take_number f (suc m) (suc n) [] h = omega arith
take_number f (suc m) (suc n) (d ∷ s) h = let k = take_number f m n s (omega arith) in
    elim (f d) as (λ b. length (cond b (d ∷ filter f (take m s)) (filter f (take m s))) ≤ length (cond b (d ∷ filter f (take n s)) (filter f (take n s))))
    [ true ↦ omega (arith, k) | false ↦ k ]

-- an anchor's place is the number of the cells shown before its gap
pub gap_place : (h : History) (a : Anchor) → place h a ≡ number (shows h) (take (gap h a).0 (cells (seq h)))
unfolding place gap
gap_place h Least = refl
gap_place h Greatest = text_number h ∙ ap (number (shows h)) (sym (take_all (length (seq h)) (cells (seq h)) (let n = length-map (seq h) (λ (p : PathCell). p.cell) in omega arith)))
gap_place h (At t k Left) = ap (number (shows h)) (upto_take (cells (seq h)) (record { stamp = t; k = k - 1 }))
gap_place h (At t k Right) = ap (number (shows h)) (before_take (cells (seq h)) (record { stamp = t; k = k }))

ordered : (x y : ℕ) (q : Ordering) → (ordering_then (nat_cmp x y) q ≡ Less → x ≤ y) × (ordering_then (nat_cmp x y) q ≡ Equal → x ≡ y)
ordered x y q = go (cases_Bool (ltb x y)) (cases_Bool (eqb x y))
  where
    go : (ltb x y ≡ true) ⊎ (ltb x y ≡ false) → (eqb x y ≡ true) ⊎ (eqb x y ≡ false)
        → (ordering_then (nat_cmp x y) q ≡ Less → x ≤ y) × (ordering_then (nat_cmp x y) q ≡ Equal → x ≡ y)
    go (inl l) e = let k = ltb-true x y l in rw l ((λ i. omega arith), (λ i. cc))
    go (inr l) (inl e) = let k = eqb-true x y e in ((λ i. omega arith), (λ i. k))
    go (inr l) (inr e) = rw (l, e) ((λ i. cc), (λ i. cc))

pub in_order : (h : History) (a b : Anchor) → (compare_anchors h a b ≡ Less → place h a ≤ place h b) × (compare_anchors h a b ≡ Equal → place h a ≡ place h b)
unfolding compare_anchors
in_order h a b = let o = ordered (gap h a).0 (gap h b).0 (nat_cmp (gap h a).1 (gap h b).1) in (
  (λ i. let l = take_number (shows h) (gap h a).0 (gap h b).0 (cells (seq h)) (o.0 i) in let x = gap_place h a in let y = gap_place h b in omega arith),
  (λ i. gap_place h a ∙ ap (λ (n : ℕ). number (shows h) (take n (cells (seq h)))) (o.1 i) ∙ sym (gap_place h b)),
)

-- ---- a total order

pub total : (h : History) → IsTotalOrder (compare_anchors h)
unfolding compare_anchors
total h = then_total (on_total (λ (a : Anchor). (gap h a).0) nat_cmp_total) (on_total (λ (a : Anchor). (gap h a).1) nat_cmp_total)

pub equal_parts : (x y u v : ℕ) → ordering_then (nat_cmp x y) (nat_cmp u v) ≡ Equal → (x ≡ y) × (u ≡ v)
equal_parts x y u v e = grind (arith, nat_tests)

pub same_gap : (h : History) (a b : Anchor) → compare_anchors h a b ≡ Equal → ((gap h a).0 ≡ (gap h b).0) × ((gap h a).1 ≡ (gap h b).1)
unfolding compare_anchors
same_gap h a b e = equal_parts (gap h a).0 (gap h b).0 (gap h a).1 (gap h b).1 e

-- ---- one gap and side, one anchor

pub got_seam : (cs : List Cell) (c : Cell) (ds : List Cell) → slice_get (cs ++ c ∷ ds) (length cs) ≡ Some c
got_seam [] c ds = refl
got_seam (d ∷ cs) c ds = got_seam cs c ds

-- a cell of h, by how many stand before it
abbrev pub StandsAt : History → Cell → ℕ → Type 0
StandsAt h c n = (slice_get (cells (seq h)) n ≡ Some c) × (n < length (seq h))

-- what an order says
pub have_order : (h : History) (a b : Anchor) (o : Ordering) → known_order h a b ≡ Some o → (is_known h a ≡ true) × (is_known h b ≡ true) × (compare_anchors h a b ≡ o)
have_order h a b o e = go (cases_Bool (is_known h a && is_known h b))
  where
    go : ((is_known h a && is_known h b) ≡ true) ⊎ ((is_known h a && is_known h b) ≡ false) → (is_known h a ≡ true) × (is_known h b ≡ true) × (compare_anchors h a b ≡ o)
    go (inl t) = let k = and_parts (is_known h a) (is_known h b) t in
        (k.0, k.1, same_Some (compare_anchors h a b) o (ap (λ (c : Bool). cond c (Some (compare_anchors h a b)) None) (sym t) ∙ e))
    go (inr t) = let q : None ≡ Some o = ap (λ (c : Bool). cond c (Some (compare_anchors h a b)) None) (sym t) ∙ e in absurd (none-some o q)

pub have_place : (h : History) (a : Anchor) (p : ℕ) → known_place h a ≡ Some p → p ≡ place h a
have_place h a p e = go (cases_Bool (is_known h a))
  where
    go : (is_known h a ≡ true) ⊎ (is_known h a ≡ false) → p ≡ place h a
    go (inl t) = sym (same_Some (place h a) p (ap (λ (c : Bool). cond c (Some (place h a)) None) (sym t) ∙ e))
    go (inr t) = let q : None ≡ Some p = ap (λ (c : Bool). cond c (Some (place h a)) None) (sym t) ∙ e in absurd (none-some p q)

pub both_known : (h : History) (a b : Anchor) (o : Ordering) → is_known h a ≡ true → is_known h b ≡ true → compare_anchors h a b ≡ o → known_order h a b ≡ Some o
both_known h a b o e f g = go (is_known h a) (is_known h b) e f
  where
    go : (x y : Bool) → x ≡ true → y ≡ true → cond (x && y) (Some (compare_anchors h a b)) None ≡ Some o
    go true true i j = ap (λ z. Some z) g
    go true false i j = absurd (cc)
    go false y i j = absurd (cc)
