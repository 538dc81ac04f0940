-- Known anchors stay known and keep their order when a history grows.
use Rattle.std.proofs.Common.{◌≡◌, ℕ, suc, ◌-◌, ◌<◌, ◌⊎◌, Bool, List, [], ◌∷◌, ◌++◌, length, refl, sym, ◌∙◌, ap, subst, inl, inr, true, false, ◌&&◌, eqb, leb, ltb, arith}
use Rattle.std.specs.List.{filter}
use Rattle.std.specs.Ordering.{nat_cmp, ordering_then}
use Rattle.std.specs.declared.cmp.Ordering.{Ordering}
use Rattle.std.specs.declared.cmp.Ordering.TheVariants.{Less, Greater}
use Rattle.std.proofs.lemmas.Bool.{cases_Bool, and_parts, eq-eqb, ne_eqb, leb-true, ltb-true, lt-ltb, le-ltb}
use Rattle.std.proofs.lemmas.List.{length-map}
use Rattle.lamport_clock.specs.declared.stamp.Lamport.{Lamport}
use Rattle.lamport_clock.specs.Stamps.{same_stamp}
use Rattle.lamport_clock.specs.Versions.{sees}
use Rattle.lamport_clock.proofs.Later.{same_stamp_eq}
use Rattle.op_model.specs.declared.anchor.Anchor.{Anchor}
use Rattle.op_model.specs.declared.anchor.Anchor.TheVariants.{Least, Greatest, At}
use Rattle.op_model.specs.declared.anchor.Bias.{Bias}
use Rattle.op_model.specs.declared.anchor.Bias.TheVariants.{Left, Right}
use Rattle.op_model.specs.Sorted.{Member}
use Rattle.op_model.specs.Operations.{stamp_of, is_edit}
use Rattle.op_model.specs.Histories.{History, Distinct, has_edit, version}
use Rattle.op_model.specs.Edits.{is_boundary}
use Rattle.op_model.specs.Cells.{Cell, PathCell, same_cell, seq, cells}
use Rattle.op_model.specs.Shown.{new_bytes}
use Rattle.op_model.specs.Lawful.{Lawful}
use Rattle.op_model.specs.Anchors.{cells_upto, cells_before, gap, compare_anchors, is_known}
use Rattle.op_model.proofs.order.PathOrder.{same_cell_eq, same_cell_refl}
use Rattle.op_model.proofs.answers.Good.{lawful_ready}
use Rattle.op_model.proofs.answers.Counted.{more_there}
use Rattle.op_model.proofs.order.CellsOnce.{all_cells, bytes_of_one}
use Rattle.op_model.proofs.answers.SameAnswers.{any_from}
use Rattle.op_model.proofs.histories.ClosedVersions.{fronts_seen, cells_only, seq_closed}
use Rattle.op_model.proofs.Elements.{member_left, filter_of}

-- ---- the places of cells in a list

abbrev pos : List Cell → Cell → ℕ
pos s c = length (cells_before s c)

-- a cell is the same as itself
same_itself : (c d : Cell) → c ≡ d → same_cell d c ≡ false → ⊥
same_itself c d q n = let r : same_cell d d ≡ false = subst (λ (x : Cell). same_cell d x ≡ false) q n in let t = same_cell_refl d in cc

pub upto_pos : (s : List Cell) (c : Cell) → Member c s → length (cells_upto s c) ≡ suc (pos s c)
upto_pos [] c m = absurd m
upto_pos (d ∷ s) c m = go (cases_Bool (same_cell d c)) (λ n. upto_pos s c n)
  where
    go : (same_cell d c ≡ true) ⊎ (same_cell d c ≡ false) → (Member c s → length (cells_upto s c) ≡ suc (pos s c)) → length (cells_upto (d ∷ s) c) ≡ suc (pos (d ∷ s) c)
    go (inl e) f = rw e refl
    go (inr e) f = rw e (ap suc (f (elim m [ inl q ↦ absurd (same_itself c d q e) | inr n ↦ n ])))

-- a place in a text: before all cells, at one, or after all
data Spot : Type 0 where
  Low High : Spot
  On : Cell → Spot

abbrev at : List Cell → Spot → ℕ
at s Low = 0
at s High = suc (length s)
at s (On c) = suc (pos s c)

abbrev Is : List Cell → Spot → Type 0
Is s Low = Unit {0}
Is s High = Unit {0}
Is s (On c) = Member c s

-- two pairs of numbers stand in one order
abbrev Alike : ℕ → ℕ → ℕ → ℕ → Type 0
Alike p q x y = ((p < q) × (x < y)) ⊎ (((p ≡ q) × (x ≡ y)) ⊎ ((q < p) × (y < x)))

module _ (f : Cell → Bool) where
  pos_less : (s : List Cell) (c : Cell) → Member c s → pos s c < length s
  pos_less [] c m = absurd m
  pos_less (d ∷ s) c m = go (cases_Bool (same_cell d c)) (pos_less s c)
    where
      go : (same_cell d c ≡ true) ⊎ (same_cell d c ≡ false) → (Member c s → pos s c < length s) → pos (d ∷ s) c < length (d ∷ s)
      go (inl e) g = rw e (omega arith)
      go (inr e) g = rw e (let k = g (elim m [ inl q ↦ absurd (same_itself c d q e) | inr n ↦ n ]) in omega arith)

  -- what passes keeps its order
  pos_alike : (s : List Cell) (c d : Cell) → Member c (filter f s) → Member d (filter f s) → Alike (pos s c) (pos s d) (pos (filter f s) c) (pos (filter f s) d)
  pos_alike [] c d m n = absurd m
  pos_alike (x ∷ s) c d m n = go (cases_Bool (f x)) (cases_Bool (same_cell x c)) (cases_Bool (same_cell x d)) (pos_alike s c d)
    where
      apart : (e : Cell) → f x ≡ false → Member e (filter f s) → same_cell x e ≡ false
      apart e q k = elim (cases_Bool (same_cell x e)) [
        | inl t ↦ (let a : f e ≡ false = subst (λ (y : Cell). f y ≡ false) (same_cell_eq x e t) q in let b = (filter_of f e s k).1 in cc)
        | inr t ↦ t
      ]

      tail : (e : Cell) → f x ≡ true → same_cell x e ≡ false → Member e (filter f (x ∷ s)) → Member e (filter f s)
      tail e q t k = let j : Member e (x ∷ filter f s) = rw q at k in elim j [ inl i ↦ absurd (self i t) | inr i ↦ i ]
        where
          self : e ≡ x → same_cell x e ≡ false → ⊥
          self i t = let r : same_cell x x ≡ false = subst (λ (y : Cell). same_cell x y ≡ false) i t in let z = same_cell_refl x in cc

      both : {p q a b : ℕ} → Alike p q a b → Alike (suc p) (suc q) (suc a) (suc b)
      both (inl k) = let u = k.0 in let v = k.1 in inl (omega arith, omega arith)
      both (inr (inl k)) = inr (inl (ap suc k.0, ap suc k.1))
      both (inr (inr k)) = let u = k.0 in let v = k.1 in inr (inr (omega arith, omega arith))

      behind : {p q a b : ℕ} → Alike p q a b → Alike (suc p) (suc q) a b
      behind (inl k) = let u = k.0 in let v = k.1 in inl (omega arith, v)
      behind (inr (inl k)) = inr (inl (ap suc k.0, k.1))
      behind (inr (inr k)) = let u = k.0 in let v = k.1 in inr (inr (omega arith, v))

      go : (f x ≡ true) ⊎ (f x ≡ false) → (same_cell x c ≡ true) ⊎ (same_cell x c ≡ false) → (same_cell x d ≡ true) ⊎ (same_cell x d ≡ false)
          → (Member c (filter f s) → Member d (filter f s) → Alike (pos s c) (pos s d) (pos (filter f s) c) (pos (filter f s) d))
          → Alike (pos (x ∷ s) c) (pos (x ∷ s) d) (pos (filter f (x ∷ s)) c) (pos (filter f (x ∷ s)) d)
      go (inl q) (inl t) (inl u) ih = rw (q, t, u) (inr (inl (refl, refl)))
      go (inl q) (inl t) (inr u) ih = rw (q, t, u) (inl (omega arith, omega arith))
      go (inl q) (inr t) (inl u) ih = rw (q, t, u) (inr (inr (omega arith, omega arith)))
      go (inl q) (inr t) (inr u) ih = rw (q, t, u) (both (ih (tail c q t m) (tail d q u n)))
      go (inr q) t u ih =
          let i : Member c (filter f s) = rw q at m in
          let j : Member d (filter f s) = rw q at n in
          let a = apart c q i in
          let b = apart d q j in
          rw (q, a, b) (behind (ih i j))

  spots_alike : (s : List Cell) (a b : Spot) → Is (filter f s) a → Is (filter f s) b → Alike (at s a) (at s b) (at (filter f s) a) (at (filter f s) b)
  spots_alike s Low Low i j = inr (inl (refl, refl))
  spots_alike s Low High i j = inl (omega arith, omega arith)
  spots_alike s Low (On d) i j = inl (omega arith, omega arith)
  spots_alike s High Low i j = inr (inr (omega arith, omega arith))
  spots_alike s High High i j = inr (inl (refl, refl))
  spots_alike s High (On d) i j = let u = pos_less s d (filter_of f d s j).0 in let v = pos_less (filter f s) d j in inr (inr (omega arith, omega arith))
  spots_alike s (On c) Low i j = inr (inr (omega arith, omega arith))
  spots_alike s (On c) High i j = let u = pos_less s c (filter_of f c s i).0 in let v = pos_less (filter f s) c i in inl (omega arith, omega arith)
  spots_alike s (On c) (On d) i j = elim (pos_alike s c d i j) [
    | inl k ↦ (let u = k.0 in let v = k.1 in inl (omega arith, omega arith))
    | inr k ↦ elim k [ inl e ↦ inr (inl (ap suc e.0, ap suc e.1)) | inr e ↦ (let u = e.0 in let v = e.1 in inr (inr (omega arith, omega arith))) ]
  ]

-- ---- the order of gaps

-- a gap after a place, or before it
abbrev gap_of : Bias → ℕ → ℕ × ℕ
gap_of Left p = (p, 0)
gap_of Right p = (p - 1, 1)

abbrev order : ℕ × ℕ → ℕ × ℕ → Ordering
order a b = ordering_then (nat_cmp a.0 b.0) (nat_cmp a.1 b.1)

is_less : (x y : ℕ) (o : Ordering) → x < y → ordering_then (nat_cmp x y) o ≡ Less
is_less x y o l = let t = lt-ltb x y l in rw t refl

is_more : (x y : ℕ) (o : Ordering) → y < x → ordering_then (nat_cmp x y) o ≡ Greater
is_more x y o l = let t : ltb x y ≡ false = le-ltb x y (omega arith) in let e : eqb x y ≡ false = ne_eqb x y (λ q. omega arith) in rw (t, e) refl

is_equal : (x y : ℕ) (o : Ordering) → x ≡ y → ordering_then (nat_cmp x y) o ≡ o
is_equal x y o e = let t : ltb x y ≡ false = le-ltb x y (omega arith) in let q : eqb x y ≡ true = eq-eqb x y e in rw (t, q) refl

-- places at or after the first cell are those of Right anchors
abbrev Fits : Bias → ℕ → Type 0
Fits Left p = Unit {0}
Fits Right p = 0 < p

order_alike : (a b : Bias) (p q x y : ℕ) → Fits a p → Fits b q → Fits a x → Fits b y → Alike p q x y → order (gap_of a p) (gap_of b q) ≡ order (gap_of a x) (gap_of b y)
order_alike Left Left p q x y i j k l (inl t) = is_less p q (nat_cmp 0 0) t.0 ∙ sym (is_less x y (nat_cmp 0 0) t.1)
order_alike Left Left p q x y i j k l (inr (inl t)) = is_equal p q (nat_cmp 0 0) t.0 ∙ sym (is_equal x y (nat_cmp 0 0) t.1)
order_alike Left Left p q x y i j k l (inr (inr t)) = is_more p q (nat_cmp 0 0) t.0 ∙ sym (is_more x y (nat_cmp 0 0) t.1)
order_alike Right Right p q x y i j k l (inl t) = let u = t.0 in let v = t.1 in is_less (p - 1) (q - 1) (nat_cmp 1 1) (omega arith) ∙ sym (is_less (x - 1) (y - 1) (nat_cmp 1 1) (omega arith))
order_alike Right Right p q x y i j k l (inr (inl t)) = let u = t.0 in let v = t.1 in is_equal (p - 1) (q - 1) (nat_cmp 1 1) (omega arith) ∙ sym (is_equal (x - 1) (y - 1) (nat_cmp 1 1) (omega arith))
order_alike Right Right p q x y i j k l (inr (inr t)) = let u = t.0 in let v = t.1 in is_more (p - 1) (q - 1) (nat_cmp 1 1) (omega arith) ∙ sym (is_more (x - 1) (y - 1) (nat_cmp 1 1) (omega arith))
order_alike Left Right p q x y i j k l (inl t) = before p q j t.0 ∙ sym (before x y l t.1)
  where
    before : (m n : ℕ) → 0 < n → m < n → order (gap_of Left m) (gap_of Right n) ≡ Less
    before m n z s = elim (Rattle.std.proofs.lemmas.Bool.cases_lt m (n - 1)) [
      | inl g ↦ is_less m (n - 1) (nat_cmp 0 1) g
      | inr g ↦ is_equal m (n - 1) (nat_cmp 0 1) (omega arith)
    ]
order_alike Left Right p q x y i j k l (inr (inl t)) = let u = t.0 in let v = t.1 in is_more p (q - 1) (nat_cmp 0 1) (omega arith) ∙ sym (is_more x (y - 1) (nat_cmp 0 1) (omega arith))
order_alike Left Right p q x y i j k l (inr (inr t)) = let u = t.0 in let v = t.1 in is_more p (q - 1) (nat_cmp 0 1) (omega arith) ∙ sym (is_more x (y - 1) (nat_cmp 0 1) (omega arith))
order_alike Right Left p q x y i j k l (inl t) = let u = t.0 in let v = t.1 in is_less (p - 1) q (nat_cmp 1 0) (omega arith) ∙ sym (is_less (x - 1) y (nat_cmp 1 0) (omega arith))
order_alike Right Left p q x y i j k l (inr (inl t)) = let u = t.0 in let v = t.1 in is_less (p - 1) q (nat_cmp 1 0) (omega arith) ∙ sym (is_less (x - 1) y (nat_cmp 1 0) (omega arith))
order_alike Right Left p q x y i j k l (inr (inr t)) = behind p q i t.0 ∙ sym (behind x y k t.1)
  where
    behind : (m n : ℕ) → 0 < m → n < m → order (gap_of Right m) (gap_of Left n) ≡ Greater
    behind m n z s = elim (Rattle.std.proofs.lemmas.Bool.cases_lt n (m - 1)) [
      | inl g ↦ is_more (m - 1) n (nat_cmp 1 0) g
      | inr g ↦ is_equal (m - 1) n (nat_cmp 1 0) (omega arith)
    ]

-- ---- anchors

abbrev spot : Anchor → Spot
spot Least = Low
spot Greatest = High
spot (At t k Left) = On (record { stamp = t; k = k - 1 })
spot (At t k Right) = On (record { stamp = t; k = k })

abbrev side : Anchor → Bias
side Least = Left
side Greatest = Right
side (At t k b) = b

fits : (s : List Cell) (a : Anchor) → Fits (side a) (at s (spot a))
fits s Least = tt
fits s Greatest = omega arith
fits s (At t k Left) = tt
fits s (At t k Right) = omega arith

gap_is : (h : History) (a : Anchor) → Is (cells (seq h)) (spot a) → gap h a ≡ gap_of (side a) (at (cells (seq h)) (spot a))
unfolding gap
gap_is h Least i = refl
gap_is h Greatest i = let n : length (seq h) ≡ suc (length (cells (seq h))) - 1 = (let e = length-map (seq h) (λ (p : PathCell). p.cell) in omega arith) in ap (λ (x : ℕ). (x, 1)) n
gap_is h (At t k Left) i = ap (λ (x : ℕ). (x, 0)) (upto_pos (cells (seq h)) (record { stamp = t; k = k - 1 }) i)
gap_is h (At t k Right) i = let n : pos (cells (seq h)) (record { stamp = t; k = k }) ≡ suc (pos (cells (seq h)) (record { stamp = t; k = k })) - 1 = omega arith in ap (λ (x : ℕ). (x, 1)) n

known_spot : (h : History) → Distinct h → (a : Anchor) → is_known h a ≡ true → Is (cells (seq h)) (spot a)
unfolding is_known
known_spot h d Least e = tt
known_spot h d Greatest e = tt
known_spot h d (At t k Left) e =
    let n : ℕ = length (new_bytes h t) in
    let a = and_parts (has_edit h t && is_boundary (new_bytes h t) k && leb 1 k) (leb k n) e in
    let b = and_parts (has_edit h t && is_boundary (new_bytes h t) k) (leb 1 k) a.0 in
    let x = leb-true k n a.1 in
    let y = leb-true 1 k b.1 in
    (all_cells h d (record { stamp = t; k = k - 1 })).1 (omega arith)
known_spot h d (At t k Right) e =
    let n : ℕ = length (new_bytes h t) in
    let a = and_parts (has_edit h t && is_boundary (new_bytes h t) k) (ltb k n) e in
    let x = ltb-true k n a.1 in
    (all_cells h d (record { stamp = t; k = k })).1 x

bytes_more : (h g : History) → Distinct h → Distinct (h ++ g) → (t : Lamport) → has_edit h t ≡ true → new_bytes (h ++ g) t ≡ new_bytes h t
bytes_more h g d e t i =
    let w = any_from (λ o. is_edit o && same_stamp (stamp_of o) t) h i in
    let q : stamp_of w.0 ≡ t = same_stamp_eq (stamp_of w.0) t (and_parts (is_edit w.0) (same_stamp (stamp_of w.0) t) w.2).1 in
    subst (λ (x : Lamport). new_bytes (h ++ g) x ≡ new_bytes h x) q (bytes_of_one (h ++ g) w.0 e (member_left w.0 h g w.1) ∙ sym (bytes_of_one h w.0 d w.1))

known_more : (h g : History) → Distinct h → Distinct (h ++ g) → (a : Anchor) → is_known h a ≡ true → is_known (h ++ g) a ≡ true
unfolding is_known
known_more h g d e Least k = refl
known_more h g d e Greatest k = refl
known_more h g d e (At t k Left) i =
    let n : ℕ = length (new_bytes h t) in
    let a = and_parts (has_edit h t && is_boundary (new_bytes h t) k && leb 1 k) (leb k n) i in
    let b = and_parts (has_edit h t && is_boundary (new_bytes h t) k) (leb 1 k) a.0 in
    let c = and_parts (has_edit h t) (is_boundary (new_bytes h t) k) b.0 in
    let y = bytes_more h g d e t c.0 in
    let m = more_there h g t c.0 in
    rw (y, m) (rw c.0 at i)
known_more h g d e (At t k Right) i =
    let n : ℕ = length (new_bytes h t) in
    let a = and_parts (has_edit h t && is_boundary (new_bytes h t) k) (ltb k n) i in
    let c = and_parts (has_edit h t) (is_boundary (new_bytes h t) k) a.0 in
    let y = bytes_more h g d e t c.0 in
    let m = more_there h g t c.0 in
    rw (y, m) (rw c.0 at i)

pub order_kept : (h g : History) → Lawful h → Lawful (h ++ g) → (a b : Anchor) → is_known h a ≡ true → is_known h b ≡ true
    → (is_known (h ++ g) a ≡ true) × (compare_anchors (h ++ g) a b ≡ compare_anchors h a b)
unfolding compare_anchors
order_kept h g l m a b i j = (known_more h g d e a i, ap2 ∙ same ∙ sym ap1)
  where
    d : Distinct h
    d = (lawful_ready h l).0.distinct

    e : Distinct (h ++ g)
    e = (lawful_ready (h ++ g) m).0.distinct

    f : Cell → Bool
    f c = sees (version h) c.stamp

    s : List Cell
    s = cells (seq (h ++ g))

    part : filter f s ≡ cells (seq h)
    part = let w = fronts_seen h g l m in
        sym (cells_only (sees (version h)) (seq (h ++ g))) ∙ ap cells (sym (seq_closed (h ++ g) m (version h) w.0)) ∙ ap (λ (x : History). cells (seq x)) w.1

    in_part : (x : Anchor) → is_known h x ≡ true → Is (filter f s) (spot x)
    in_part x k = subst (λ (z : List Cell). Is z (spot x)) (sym part) (known_spot h d x k)

    ap2 : order (gap (h ++ g) a) (gap (h ++ g) b) ≡ order (gap_of (side a) (at s (spot a))) (gap_of (side b) (at s (spot b)))
    ap2 = let p = gap_is (h ++ g) a (known_spot (h ++ g) e a (known_more h g d e a i)) in let q = gap_is (h ++ g) b (known_spot (h ++ g) e b (known_more h g d e b j)) in
        λ k. order (p k) (q k)

    ap1 : order (gap h a) (gap h b) ≡ order (gap_of (side a) (at (filter f s) (spot a))) (gap_of (side b) (at (filter f s) (spot b)))
    ap1 = let p = gap_is h a (known_spot h d a i) in let q = gap_is h b (known_spot h d b j) in
        (λ k. order (p k) (q k)) ∙ sym (λ k. order (gap_of (side a) (at (part k) (spot a))) (gap_of (side b) (at (part k) (spot b))))

    same : order (gap_of (side a) (at s (spot a))) (gap_of (side b) (at s (spot b))) ≡ order (gap_of (side a) (at (filter f s) (spot a))) (gap_of (side b) (at (filter f s) (spot b)))
    same = order_alike (side a) (side b) (at s (spot a)) (at s (spot b)) (at (filter f s) (spot a)) (at (filter f s) (spot b))
        (fits s a) (fits s b) (fits (filter f s) a) (fits (filter f s) b) (spots_alike f s (spot a) (spot b) (in_part a i) (in_part b j))
