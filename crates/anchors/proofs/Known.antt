-- Which anchors are known, and where they stand.
use Rattle.std.proofs.Common.{◌≡◌, ℕ, ◌+◌, ◌-◌, ◌<◌, ◌≤◌, ◌⊎◌, Bool, true, false, cond, ◌&&◌, ltb, leb, List, ◌∷◌, ◌++◌, length, Some, None, refl, sym, ap, ◌∙◌, arith, inl, inr}
use Rattle.std.specs.Ordering.{nat_cmp, ordering_then}
use Rattle.std.specs.declared.cmp.Ordering.{Ordering}
use Rattle.std.proofs.lemmas.Bool.{cases_Bool, cases_lt, and_parts, lt-ltb, le-leb, ltb-true, ltb-false, leb-true, false_from_ne_true, lt-leb, and_right}
use Rattle.std.proofs.lemmas.Option.{same_Some, none-some}
use Rattle.lamport_clock.specs.declared.stamp.Lamport.{Lamport}
use Rattle.op_model.specs.Edits.{is_boundary}
use Rattle.op_model.specs.Histories.{History, has_edit}
use Rattle.op_model.specs.Cells.{Cell, seq, cells, cell_at}
use Rattle.op_model.specs.Shown.{new_bytes, shows, text, hidden_text}
use Rattle.op_model.specs.Lawful.{Lawful}
use Rattle.op_model.specs.declared.anchor.Anchor.{Anchor}
use Rattle.op_model.specs.declared.anchor.Anchor.TheVariants.{Least, Greatest, At}
use Rattle.op_model.specs.declared.anchor.Bias.{Bias}
use Rattle.op_model.specs.declared.anchor.Bias.TheVariants.{Left, Right}
use Rattle.op_model.specs.Anchors.{shown_count, place, gap, is_known, compare_anchors, known_order}
use Rattle.fragments.specs.declared.fragment.Fragment.{Fragment}
use Rattle.fragments.specs.DeletedRuns.{IndexState}
use Rattle.anchors.specs.declared.spot.Spot.{Spot}
use Rattle.anchors.specs.declared.standing.Standing.{Standing}
use Rattle.anchors.specs.Spots.{spot, spot_of, begins}
use Rattle.anchors.specs.Standing.{StandFor, bias_of, side, standing_of}
use Rattle.anchors.proofs.Splits.{before_is, number_upto, length_upto, in_text, in_hidden}
use Rattle.op_model.proofs.anchors.KnownAnchors.{edit_there}
use Rattle.op_model.proofs.texts.WholeTexts.{same_byte}
use Rattle.op_model.proofs.texts.Hidden.{both_lengths}
use Rattle.op_model.proofs.anchors.Standing.{split_cell}

-- ---- spots

pub some_spot : (h : History) (c : Cell) (s : Spot) → spot_of h c ≡ Some s → (c.k < length (new_bytes h c.stamp)) × (s ≡ spot h c)
some_spot h c s e = go (cases_Bool (ltb c.k (length (new_bytes h c.stamp))))
  where
    go : (ltb c.k (length (new_bytes h c.stamp)) ≡ true) ⊎ (ltb c.k (length (new_bytes h c.stamp)) ≡ false) → (c.k < length (new_bytes h c.stamp)) × (s ≡ spot h c)
    go (inl t) = let q : Some (spot h c) ≡ Some s = ap (λ (b : Bool). cond b (Some (spot h c)) None) (sym t) ∙ e in (ltb-true c.k (length (new_bytes h c.stamp)) t, sym (same_Some (spot h c) s q))
    go (inr t) = let q : None ≡ Some s = ap (λ (b : Bool). cond b (Some (spot h c)) None) (sym t) ∙ e in absurd (none-some s q)

pub none_spot : (h : History) (c : Cell) → spot_of h c ≡ None → length (new_bytes h c.stamp) ≤ c.k
none_spot h c e = go (cases_Bool (ltb c.k (length (new_bytes h c.stamp))))
  where
    go : (ltb c.k (length (new_bytes h c.stamp)) ≡ true) ⊎ (ltb c.k (length (new_bytes h c.stamp)) ≡ false) → length (new_bytes h c.stamp) ≤ c.k
    go (inl t) = let q : Some (spot h c) ≡ None = ap (λ (b : Bool). cond b (Some (spot h c)) None) (sym t) ∙ e in absurd (none-some (spot h c) (sym q))
    go (inr t) = ltb-false c.k (length (new_bytes h c.stamp)) t

module _ (fs : List Fragment) (w : IndexState) (v n : List ℕ) (h : History) (s : StandFor fs w v n h) where
  -- a character begins at a spot where one of its edit's new bytes does
  pub begins_is : (c : Cell) (p : Spot) → spot_of h c ≡ Some p → begins v n p ≡ is_boundary (new_bytes h c.stamp) c.k
  begins_is c p e =
      let k = some_spot h c p e in
      let x = split_cell h s.lawful c k.0 in
      let b = before_is h s.lawful x.0 c x.1 x.2 in
      let a : p.is_shown ≡ shows h c = ap (λ (z : Spot). z.is_shown) k.1 in
      let m : p.shown ≡ shown_count h x.0 = ap (λ (z : Spot). z.shown) k.1 ∙ ap (shown_count h) b in
      let d : p.cells ≡ length x.0 = ap (λ (z : Spot). z.cells) k.1 ∙ ap length b in
      let q : p.cells - p.shown ≡ length x.0 - shown_count h x.0 = omega (arith, m, d) in
      go (cases_Bool (shows h c)) x.0 x.1 x.2 a m q k.0
    where
      go : (shows h c ≡ true) ⊎ (shows h c ≡ false) → (cs ds : List Cell) → cells (seq h) ≡ cs ++ c ∷ ds → p.is_shown ≡ shows h c → p.shown ≡ shown_count h cs → p.cells - p.shown ≡ length cs - shown_count h cs
          → c.k < length (new_bytes h c.stamp) → begins v n p ≡ is_boundary (new_bytes h c.stamp) c.k
      go (inl t) cs ds x a m q i =
          let y = in_text h s.lawful cs c ds x t in
          ap (λ (b : Bool). cond b (is_boundary v p.shown) (is_boundary n (p.cells - p.shown))) (a ∙ t)
          ∙ ap (λ (z : List ℕ). is_boundary z p.shown) s.shows ∙ ap (is_boundary (text h)) m
          ∙ same_byte (text h) (new_bytes h c.stamp) (shown_count h cs) c.k y.0 i y.1
      go (inr t) cs ds x a m q i =
          let y = in_hidden h s.lawful cs c ds x t in
          ap (λ (b : Bool). cond b (is_boundary v p.shown) (is_boundary n (p.cells - p.shown))) (a ∙ t)
          ∙ ap (λ (z : List ℕ). is_boundary z (p.cells - p.shown)) s.hides ∙ ap (is_boundary (hidden_text h)) q
          ∙ same_byte (hidden_text h) (new_bytes h c.stamp) (length cs - shown_count h cs) c.k y.0 i y.1

-- ---- what is known

middle_of : (a b c : Bool) → a ≡ true → c ≡ true → (a && b && c) ≡ b
middle_of true true true e f = refl
middle_of true false true e f = refl
middle_of false b c e f = absurd (cc)
middle_of true b false e f = absurd (cc)

second_of : (a b c d : Bool) → a ≡ true → c ≡ true → d ≡ true → (a && b && c && d) ≡ b
second_of true true true true e f g = refl
second_of true false true true e f g = refl
second_of false b c d e f g = absurd (cc)
second_of true b false d e f g = absurd (cc)
second_of true b true false e f g = absurd (cc)

module _ (h : History) (t : Lamport) (k : ℕ) where
  right_unknown : length (new_bytes h t) ≤ k → is_known h (At t k Right) ≡ false
  unfolding is_known
  right_unknown l = and_right (has_edit h t && is_boundary (new_bytes h t) k) (ltb k (length (new_bytes h t)))
      (false_from_ne_true (ltb k (length (new_bytes h t))) (λ q. let r = ltb-true k (length (new_bytes h t)) q in absurd (omega (arith, l, r))))

  right_known : k < length (new_bytes h t) → is_known h (At t k Right) ≡ is_boundary (new_bytes h t) k
  unfolding is_known
  right_known l = middle_of (has_edit h t) (is_boundary (new_bytes h t) k) (ltb k (length (new_bytes h t))) (edit_there h t k l) (lt-ltb k (length (new_bytes h t)) l)

  left_unknown : k ≡ 0 ⊎ length (new_bytes h t) < k → is_known h (At t k Left) ≡ false
  unfolding is_known
  left_unknown (inl e) = false_from_ne_true (has_edit h t && is_boundary (new_bytes h t) k && leb 1 k && leb k (length (new_bytes h t))) (λ q.
      let x = and_parts (has_edit h t && is_boundary (new_bytes h t) k && leb 1 k) (leb k (length (new_bytes h t))) q in
      let y = and_parts (has_edit h t && is_boundary (new_bytes h t) k) (leb 1 k) x.0 in
      let z = leb-true 1 k y.1 in absurd (omega (arith, z, e)))
  left_unknown (inr l) = and_right (has_edit h t && is_boundary (new_bytes h t) k && leb 1 k) (leb k (length (new_bytes h t))) (lt-leb k (length (new_bytes h t)) l)

  left_known : (k ≡ 0 → ⊥) → k - 1 < length (new_bytes h t) → is_known h (At t k Left) ≡ is_boundary (new_bytes h t) k
  unfolding is_known
  left_known z l = go (cases_lt 0 k)
    where
      go : (0 < k) ⊎ (k ≤ 0) → (has_edit h t && is_boundary (new_bytes h t) k && leb 1 k && leb k (length (new_bytes h t))) ≡ is_boundary (new_bytes h t) k
      go (inl p) = second_of (has_edit h t) (is_boundary (new_bytes h t) k) (leb 1 k) (leb k (length (new_bytes h t))) (edit_there h t (k - 1) l)
          (le-leb 1 k (omega (arith, p))) (le-leb k (length (new_bytes h t)) (omega (arith, p, l)))
      go (inr p) = absurd (z (omega (arith, p)))

-- ---- where they stand

abbrev where_stands : History → Anchor → Standing
where_stands h a = record { place = place h a; gap = (gap h a).0; bias = bias_of a }

not_standing : (h : History) (a : Anchor) → is_known h a ≡ false → None ≡ standing_of h a
not_standing h a e = sym (ap (λ (b : Bool). cond b (Some (where_stands h a)) None) e)

stands_there : (h : History) (a : Anchor) (s : Standing) → is_known h a ≡ true → s ≡ where_stands h a → Some s ≡ standing_of h a
stands_there h a s e i = ap (λ (z : Standing). Some z) i ∙ sym (ap (λ (b : Bool). cond b (Some (where_stands h a)) None) e)

standing_eq : {p q g k : ℕ} {a : Bias} → p ≡ q → g ≡ k → ◌≡◌ {A = Standing} (record { place = p; gap = g; bias = a }) (record { place = q; gap = k; bias = a })
standing_eq {p} {q} {g} {k} {a} e f = λ i. record { place = e i; gap = f i; bias = a }

pub least_stands : (h : History) → Some (record { place = 0; gap = 0; bias = Left }) ≡ standing_of h Least
unfolding is_known place gap
least_stands h = refl

greatest_is : (h : History) (p g : ℕ) → p ≡ length (text h) → g ≡ length (seq h) → Some (record { place = p; gap = g; bias = Right }) ≡ standing_of h Greatest
unfolding is_known place gap
greatest_is h p g e f = ap (λ (z : Standing). Some z) (standing_eq e f)

module _ (h : History) (t : Lamport) (k : ℕ) where
  pub right_none : spot_of h (cell_at t k) ≡ None → None ≡ standing_of h (At t k Right)
  right_none e = not_standing h (At t k Right) (right_unknown h t k (none_spot h (cell_at t k) e))

  pub right_not : (p : Spot) → spot_of h (cell_at t k) ≡ Some p → is_boundary (new_bytes h t) k ≡ false → None ≡ standing_of h (At t k Right)
  right_not p e b = not_standing h (At t k Right) (right_known h t k (some_spot h (cell_at t k) p e).0 ∙ b)

  right_where : (p : Spot) → p ≡ spot h (cell_at t k) → ◌≡◌ {A = Standing} (record { place = p.shown; gap = p.cells; bias = Right }) (where_stands h (At t k Right))
  unfolding place gap
  right_where p e = standing_eq (ap (λ (z : Spot). z.shown) e) (ap (λ (z : Spot). z.cells) e)

  pub right_some : (p : Spot) → spot_of h (cell_at t k) ≡ Some p → is_boundary (new_bytes h t) k ≡ true → Some (record { place = p.shown; gap = p.cells; bias = Right }) ≡ standing_of h (At t k Right)
  right_some p e b = let x = some_spot h (cell_at t k) p e in stands_there h (At t k Right) (record { place = p.shown; gap = p.cells; bias = Right }) (right_known h t k x.0 ∙ b) (right_where p x.1)

  pub left_zero : k ≡ 0 → None ≡ standing_of h (At t k Left)
  left_zero e = not_standing h (At t k Left) (left_unknown h t k (inl e))

  pub left_none : (k ≡ 0 → ⊥) → spot_of h (cell_at t (k - 1)) ≡ None → None ≡ standing_of h (At t k Left)
  left_none z e = let l = none_spot h (cell_at t (k - 1)) e in
      elim (cases_lt 0 k) [
        | inl p ↦ not_standing h (At t k Left) (left_unknown h t k (inr (omega (arith, l, p))))
        | inr p ↦ absurd (z (omega (arith, p)))
      ]

  pub left_not : (k ≡ 0 → ⊥) → (p : Spot) → spot_of h (cell_at t (k - 1)) ≡ Some p → is_boundary (new_bytes h t) k ≡ false → None ≡ standing_of h (At t k Left)
  left_not z p e b = not_standing h (At t k Left) (left_known h t k z (some_spot h (cell_at t (k - 1)) p e).0 ∙ b)

  left_where : Lawful h → (p : Spot) → k - 1 < length (new_bytes h t) → p ≡ spot h (cell_at t (k - 1))
      → ◌≡◌ {A = Standing} (record { place = p.shown + cond p.is_shown 1 0; gap = p.cells + 1; bias = Left }) (where_stands h (At t k Left))
  unfolding place gap
  left_where l p i e =
      let c : Cell = cell_at t (k - 1) in
      let x = split_cell h l c i in
      let b = before_is h l x.0 c x.1 x.2 in
      let m : p.shown ≡ shown_count h x.0 = ap (λ (z : Spot). z.shown) e ∙ ap (shown_count h) b in
      let d : p.cells ≡ length x.0 = ap (λ (z : Spot). z.cells) e ∙ ap length b in
      let a : ◌≡◌ {A = ℕ} (cond p.is_shown 1 0) (cond (shows h c) 1 0) = ap (λ (z : Spot). cond z.is_shown 1 0) e in
      let u = number_upto h l x.0 c x.1 x.2 in
      let y = length_upto h l x.0 c x.1 x.2 in
      standing_eq (omega (arith, m, a, u)) (omega (arith, d, y))

  pub left_some : Lawful h → (k ≡ 0 → ⊥) → (p : Spot) → spot_of h (cell_at t (k - 1)) ≡ Some p → is_boundary (new_bytes h t) k ≡ true
      → Some (record { place = p.shown + cond p.is_shown 1 0; gap = p.cells + 1; bias = Left }) ≡ standing_of h (At t k Left)
  left_some l z p e b = let x = some_spot h (cell_at t (k - 1)) p e in
      stands_there h (At t k Left) (record { place = p.shown + cond p.is_shown 1 0; gap = p.cells + 1; bias = Left }) (left_known h t k z x.0 ∙ b) (left_where l p x.0 x.1)

pub greatest_stands : (fs : List Fragment) (w : IndexState) (v n : List ℕ) (h : History) → StandFor fs w v n h
    → Some (record { place = length v; gap = length v + length n; bias = Right }) ≡ standing_of h Greatest
greatest_stands fs w v n h s = let a = ap length s.shows in let b = ap length s.hides in let c = both_lengths h s.lawful in
    greatest_is h (length v) (length v + length n) a (omega (arith, a, b, c))

-- ---- order

pub side_is : (h : History) (a : Anchor) → (gap h a).1 ≡ side (bias_of a)
unfolding gap
side_is h Least = refl
side_is h Greatest = refl
side_is h (At t k Left) = refl
side_is h (At t k Right) = refl

stood : (h : History) (a : Anchor) (s : Standing) → Some s ≡ standing_of h a → (is_known h a ≡ true) × (s ≡ where_stands h a)
stood h a s e = go (cases_Bool (is_known h a))
  where
    go : (is_known h a ≡ true) ⊎ (is_known h a ≡ false) → (is_known h a ≡ true) × (s ≡ where_stands h a)
    go (inl t) = (t, same_Some s (where_stands h a) (e ∙ ap (λ (b : Bool). cond b (Some (where_stands h a)) None) t))
    go (inr t) = absurd (none-some s (sym (e ∙ ap (λ (b : Bool). cond b (Some (where_stands h a)) None) t)))

compared_by : (h : History) (a b : Anchor) (s r : Standing) → s ≡ where_stands h a → r ≡ where_stands h b
    → ordering_then (nat_cmp s.gap r.gap) (nat_cmp (side s.bias) (side r.bias)) ≡ compare_anchors h a b
unfolding compare_anchors
compared_by h a b s r e f =
    ap (λ (z : Standing). ordering_then (nat_cmp z.gap r.gap) (nat_cmp (side z.bias) (side r.bias))) e
    ∙ ap (λ (z : Standing). ordering_then (nat_cmp (gap h a).0 z.gap) (nat_cmp (side (bias_of a)) (side z.bias))) f
    ∙ ap (λ (x : ℕ). ordering_then (nat_cmp (gap h a).0 (gap h b).0) (nat_cmp x (side (bias_of b)))) (sym (side_is h a))
    ∙ ap (λ (x : ℕ). ordering_then (nat_cmp (gap h a).0 (gap h b).0) (nat_cmp (gap h a).1 x)) (sym (side_is h b))

pub compared_is : (h : History) (a b : Anchor) (s r : Standing) → Some s ≡ standing_of h a → Some r ≡ standing_of h b
    → Some (ordering_then (nat_cmp s.gap r.gap) (nat_cmp (side s.bias) (side r.bias))) ≡ known_order h a b
compared_is h a b s r e f =
    let x = stood h a s e in
    let y = stood h b r f in
    ap (λ (o : Ordering). Some o) (compared_by h a b s r x.1 y.1) ∙ sym (both (is_known h a) (is_known h b) x.0 y.0)
  where
    both : (p q : Bool) → p ≡ true → q ≡ true → cond (p && q) (Some (compare_anchors h a b)) None ≡ Some (compare_anchors h a b)
    both true true i j = refl
    both true false i j = absurd (cc)
    both false q i j = absurd (cc)
