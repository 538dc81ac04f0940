-- The order of anchors.
use Rattle.std.proofs.Common.{◌≡◌, ℕ, ◌+◌, ◌-◌, ◌<◌, ◌⊎◌, true, List, ◌∷◌, ◌++◌, length, refl, sym, ap, ◌∙◌, arith, inl, inr}
use Rattle.std.specs.Prelude.{slice_get}
use Rattle.std.specs.Ordering.{nat_cmp, ordering_then}
use Rattle.std.specs.declared.cmp.Ordering.TheVariants.{Less, Equal}
use Rattle.std.proofs.lemmas.Bool.Decides.{nat_tests}
use Rattle.std.proofs.lemmas.Option.{same_Some}
use Rattle.std.proofs.lemmas.List.{length-map, length-append}
use Rattle.op_model.specs.Histories.{History}
use Rattle.op_model.specs.Cells.{Cell, PathCell, seq, cells, cell_at}
use Rattle.op_model.specs.Shown.{new_bytes}
use Rattle.op_model.specs.Lawful.{Lawful}
use Rattle.op_model.specs.declared.anchor.Anchor.{Anchor}
use Rattle.op_model.specs.declared.anchor.Anchor.TheVariants.{Least, Greatest, At}
use Rattle.op_model.specs.declared.anchor.Bias.{Bias}
use Rattle.op_model.specs.declared.anchor.Bias.TheVariants.{Left, Right}
use Rattle.op_model.specs.Anchors.{gap, is_known, compare_anchors, cells_before, cells_upto}
use Rattle.op_model.proofs.MainLaws.{anchors_keep_their_order, anchors_stand_in_order, anchors_resolve}
use Rattle.op_model.proofs.anchors.AnchorOrder.{total, same_gap, got_seam, StandsAt, have_order, have_place, both_known}
use Rattle.op_model.proofs.anchors.Standing.{split_cell, right_cell, left_cell}
use Rattle.anchors.specs.Standing.{side}
use Rattle.anchors.specs.Laws.{OrderIsTotal, LeftBeforeRight, AnchorsStayInOrder, AnchorsComeBack}
use Rattle.anchors.proofs.Splits.{before_is, length_upto}
use Rattle.anchors.proofs.Known.{side_is}

less_in_gap : (x y u v : ℕ) → x ≡ y → u ≡ 0 → v ≡ 1 → ordering_then (nat_cmp x y) (nat_cmp u v) ≡ Less
less_in_gap x y u v e f g = grind (arith, nat_tests)

pub left_before_right : LeftBeforeRight
unfolding compare_anchors
left_before_right h a b e f g = less_in_gap (gap h a).0 (gap h b).0 (gap h a).1 (gap h b).1 e (side_is h a ∙ ap side f) (side_is h b ∙ ap side g)

module _ (h : History) (l : Lawful h) where
  stands_at : (c : Cell) → c.k < length (new_bytes h c.stamp) → StandsAt h c (length (cells_before (cells (seq h)) c)) × (length (cells_upto (cells (seq h)) c) ≡ length (cells_before (cells (seq h)) c) + 1)
  stands_at c i =
      let x = split_cell h l c i in
      let b = ap length (before_is h l x.0 c x.1 x.2) in
      let u = length_upto h l x.0 c x.1 x.2 in
      let n = ap length x.2 ∙ length-append x.0 (c ∷ x.1) in
      let m = length-map (seq h) (λ (p : PathCell). p.cell) in
      ((ap (slice_get (cells (seq h))) b ∙ ap (λ (s : List Cell). slice_get s (length x.0)) x.2 ∙ got_seam x.0 c x.1, omega (arith, b, n, m)), omega (arith, b, u))

  one_cell : (c d : Cell) (m n : ℕ) → m ≡ n → StandsAt h c m → StandsAt h d n → c ≡ d
  one_cell c d m n e a b = same_Some c d (sym a.0 ∙ ap (slice_get (cells (seq h))) e ∙ b.0)

  anchor_of : Bias → Cell → Anchor
  anchor_of Left c = At c.stamp (c.k + 1) Left
  anchor_of Right c = At c.stamp c.k Right

  -- what the gap and the side of a known anchor are
  abbrev Gapped : Anchor → Type 0
  Gapped a = (a ≡ Least) ⊎ ((a ≡ Greatest) ⊎ ((c : Cell) × (n : ℕ) × StandsAt h c n × (((a ≡ anchor_of Left c) × ((gap h a).0 ≡ n + 1) × ((gap h a).1 ≡ 0)) ⊎ ((a ≡ anchor_of Right c) × ((gap h a).0 ≡ n) × ((gap h a).1 ≡ 1)))))

  gapped : (a : Anchor) → is_known h a ≡ true → Gapped a
  unfolding gap anchor_of
  gapped Least e = inl refl
  gapped Greatest e = inr (inl refl)
  gapped (At t k Left) e =
      let i = left_cell h t k e in
      let lo = i.0 in
      let c : Cell = cell_at t (k - 1) in
      let s = stands_at c i.1 in
      let q : k ≡ k - 1 + 1 = omega (arith, lo) in
      inr (inr (c, length (cells_before (cells (seq h)) c), s.0, inl (ap (λ (n : ℕ). At t n Left) q, s.1, refl)))
  gapped (At t k Right) e =
      let c : Cell = cell_at t k in
      let s = stands_at c (right_cell h t k e) in
      inr (inr (c, length (cells_before (cells (seq h)) c), s.0, inr (refl, refl, refl)))

  one_anchor : (a b : Anchor) → Gapped a → Gapped b → (gap h a).0 ≡ (gap h b).0 → (gap h a).1 ≡ (gap h b).1 → a ≡ b
  unfolding gap
  one_anchor a b (inl x) (inl y) e f = x ∙ sym y
  one_anchor a b (inl x) (inr (inl y)) e f = let p = ap (λ z. (gap h z).1) x in let q = ap (λ z. (gap h z).1) y in absurd (omega (arith, p, q, f))
  one_anchor a b (inl x) (inr (inr (c, n, s, inl y))) e f = let p = ap (λ z. (gap h z).0) x in let q = y.1 in absurd (omega (arith, p, q, e))
  one_anchor a b (inl x) (inr (inr (c, n, s, inr y))) e f = let p = ap (λ z. (gap h z).1) x in let q = y.2 in absurd (omega (arith, p, q, f))
  one_anchor a b (inr (inl x)) (inl y) e f = let p = ap (λ z. (gap h z).1) x in let q = ap (λ z. (gap h z).1) y in absurd (omega (arith, p, q, f))
  one_anchor a b (inr (inl x)) (inr (inl y)) e f = x ∙ sym y
  one_anchor a b (inr (inl x)) (inr (inr (c, n, s, inl y))) e f = let p = ap (λ z. (gap h z).1) x in let q = y.2 in absurd (omega (arith, p, q, f))
  one_anchor a b (inr (inl x)) (inr (inr (c, n, s, inr y))) e f = let p = ap (λ z. (gap h z).0) x in let q = y.1 in let r = s.1 in absurd (omega (arith, p, q, r, e))
  one_anchor a b (inr (inr (c, n, s, inl x))) (inl y) e f = let p = x.1 in let q = ap (λ z. (gap h z).0) y in absurd (omega (arith, p, q, e))
  one_anchor a b (inr (inr (c, n, s, inr x))) (inl y) e f = let p = x.2 in let q = ap (λ z. (gap h z).1) y in absurd (omega (arith, p, q, f))
  one_anchor a b (inr (inr (c, n, s, inl x))) (inr (inl y)) e f = let p = x.2 in let q = ap (λ z. (gap h z).1) y in absurd (omega (arith, p, q, f))
  one_anchor a b (inr (inr (c, n, s, inr x))) (inr (inl y)) e f = let p = x.1 in let q = ap (λ z. (gap h z).0) y in let r = s.1 in absurd (omega (arith, p, q, r, e))
  one_anchor a b (inr (inr (c, n, s, inl x))) (inr (inr (d, m, r, inl y))) e f =
      let p = x.1 in let q = y.1 in x.0 ∙ ap (anchor_of Left) (one_cell c d n m (omega (arith, p, q, e)) s r) ∙ sym y.0
  one_anchor a b (inr (inr (c, n, s, inl x))) (inr (inr (d, m, r, inr y))) e f = let p = x.2 in let q = y.2 in absurd (omega (arith, p, q, f))
  one_anchor a b (inr (inr (c, n, s, inr x))) (inr (inr (d, m, r, inl y))) e f = let p = x.2 in let q = y.2 in absurd (omega (arith, p, q, f))
  one_anchor a b (inr (inr (c, n, s, inr x))) (inr (inr (d, m, r, inr y))) e f =
      let p = x.1 in let q = y.1 in x.0 ∙ ap (anchor_of Right) (one_cell c d n m (omega (arith, p, q, e)) s r) ∙ sym y.0

pub order_is_total : OrderIsTotal
order_is_total h = (
  total h,
  λ l a b e.
      let k = have_order h a b Equal e in
      let g = same_gap h a b k.2 in
      one_anchor h l a b (gapped h l a k.0) (gapped h l b k.1) g.0 g.1,
)

pub anchors_stay_in_order : AnchorsStayInOrder
anchors_stay_in_order h g l m a b o e =
    let k = have_order h a b o e in
    let x = anchors_keep_their_order h g l m a b k.0 k.1 in
    let y = anchors_keep_their_order h g l m b a k.1 k.0 in
    let c : compare_anchors (h ++ g) a b ≡ o = x.1 ∙ k.2 in (
      both_known (h ++ g) a b o x.0 y.0 c,
      λ i p q r s.
          let u = have_place (h ++ g) a p r in let v = have_place (h ++ g) b q s in
          let w = (anchors_stand_in_order (h ++ g) a b).0 (c ∙ i) in omega (arith, u, v, w),
    )

pub anchors_come_back : AnchorsComeBack
anchors_come_back h l p o Left e = let k = anchors_resolve h l p o e in (k.0, k.2)
anchors_come_back h l p o Right e = let k = anchors_resolve h l p o e in (k.1, k.3)
