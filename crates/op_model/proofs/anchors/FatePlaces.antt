-- Where anchors stand then and now, by the fates of all cells; the order of made anchors.
use Rattle.std.proofs.Common.{◌≡◌, ◌⊎◌, inl, inr, ℕ, zero, suc, ◌-◌, ◌≤◌, ◌<◌, ◌&&◌, Bool, true, false, eqb, List, [], ◌∷◌, ◌++◌, length, map, filter, take, refl, sym, ap, ◌∙◌, subst, arith, take_all, Some, None, Option}
use Rattle.std.specs.Prelude.{slice_get, option_map}
use Rattle.std.specs.List.{take-map}
use Rattle.std.specs.Ordering.{nat_cmp, ordering_then}
use Rattle.std.specs.declared.cmp.Ordering.TheVariants.{Less}
use Rattle.std.proofs.lemmas.Bool.{cases_Bool, cases_lt, and_parts, ne_eqb}
use Rattle.std.proofs.lemmas.Bool.Decides.{nat_tests}
use Rattle.std.proofs.lemmas.List.{length-map}
use Rattle.lamport_clock.specs.declared.stamp.Lamport.{Lamport}
use Rattle.lamport_clock.specs.Stamps.{same_stamp}
use Rattle.lamport_clock.specs.Versions.{sees}
use Rattle.lamport_clock.proofs.Later.{same_stamp_eq}
use Rattle.op_model.specs.declared.anchor.Anchor.{Anchor}
use Rattle.op_model.specs.declared.anchor.Anchor.TheVariants.{Least, Greatest, At}
use Rattle.op_model.specs.declared.anchor.Bias.TheVariants.{Left, Right}
use Rattle.op_model.specs.Operations.{stamp_of, is_edit}
use Rattle.op_model.specs.Histories.{History, Distinct, has_edit, version}
use Rattle.op_model.specs.Cells.{Cell, PathCell, same_cell, seq, cells}
use Rattle.op_model.specs.Edits.{is_boundary}
use Rattle.op_model.specs.Shown.{shows, text, new_bytes}
use Rattle.op_model.specs.Lawful.{Lawful}
use Rattle.op_model.specs.Since.{Fate, fate, fates, is_shown_at}
use Rattle.op_model.specs.Anchors.{shown_cells, left_anchor, right_anchor, cells_upto, cells_before, place, gap, compare_anchors, is_known}
use Rattle.op_model.specs.Places.{number_then, number_now}
use Rattle.op_model.specs.Laws.{PlacesByFates, MadeAnchorsStandInOrder, ShownAnchorsAreMadeAgain}
use Rattle.op_model.proofs.order.PathOrder.{same_cell_eq}
use Rattle.op_model.proofs.order.CellsOnce.{once}
use Rattle.op_model.proofs.answers.Good.{lawful_ready}
use Rattle.op_model.proofs.answers.SameAnswers.{any_from}
use Rattle.op_model.proofs.answers.MadeGood.{text_number}
use Rattle.op_model.proofs.histories.ClosedVersions.{fronts_seen, cells_only, seq_closed}
use Rattle.op_model.proofs.histories.VersionLaws.{sees_own}
use Rattle.op_model.proofs.anchors.AnchorPlaces.{number, got_member, before_count, left_place, right_place}
use Rattle.op_model.proofs.anchors.AnchorOrder.{upto_take, before_take, take_number, gap_place}
use Rattle.op_model.proofs.anchors.KeptOrder.{upto_pos}
use Rattle.op_model.proofs.anchors.Standing.{text_length}

-- ---- fates counted

module _ (a b : Cell → Bool) where
  fated : List Cell → List Fate
  fated s = map (λ (c : Cell). fate (a c) (b c)) s

  pub then_is : (s : List Cell) → number_then (map (λ (c : Cell). fate (a c) (b c)) s) ≡ number a s
  then_is [] = refl
  then_is (c ∷ s) = go (cases_Bool (a c)) (cases_Bool (b c)) (then_is s)
    where
      go : (a c ≡ true) ⊎ (a c ≡ false) → (b c ≡ true) ⊎ (b c ≡ false) → number_then (map (λ (c : Cell). fate (a c) (b c)) s) ≡ number a s → number_then (map (λ (c : Cell). fate (a c) (b c)) (c ∷ s)) ≡ number a (c ∷ s)
      go (inl p) (inl q) ih = rw (p, q) (ap suc ih)
      go (inl p) (inr q) ih = rw (p, q) (ap suc ih)
      go (inr p) (inl q) ih = rw (p, q) ih
      go (inr p) (inr q) ih = rw (p, q) ih

  pub now_is : (s : List Cell) → number_now (map (λ (c : Cell). fate (a c) (b c)) s) ≡ number b s
  now_is [] = refl
  now_is (c ∷ s) = go (cases_Bool (a c)) (cases_Bool (b c)) (now_is s)
    where
      go : (a c ≡ true) ⊎ (a c ≡ false) → (b c ≡ true) ⊎ (b c ≡ false) → number_now (map (λ (c : Cell). fate (a c) (b c)) s) ≡ number b s → number_now (map (λ (c : Cell). fate (a c) (b c)) (c ∷ s)) ≡ number b (c ∷ s)
      go (inl p) (inl q) ih = rw (p, q) (ap suc ih)
      go (inl p) (inr q) ih = rw (p, q) ih
      go (inr p) (inl q) ih = rw (p, q) (ap suc ih)
      go (inr p) (inr q) ih = rw (p, q) ih

-- ---- cells that pass a test, before a cell that does

module _ (f : Cell → Bool) where
  not_it : (d c : Cell) → f c ≡ true → f d ≡ false → same_cell d c ≡ false
  not_it d c p q = elim (cases_Bool (same_cell d c)) [ inl t ↦ absurd (let e : f d ≡ f c = ap f (same_cell_eq d c t) in cc) | inr t ↦ t ]

  before_filter : (s : List Cell) (c : Cell) → f c ≡ true → filter f (cells_before s c) ≡ cells_before (filter f s) c
  before_filter [] c p = refl
  before_filter (d ∷ s) c p = go (cases_Bool (f d)) (cases_Bool (same_cell d c)) (before_filter s c p)
    where
      go : (f d ≡ true) ⊎ (f d ≡ false) → (same_cell d c ≡ true) ⊎ (same_cell d c ≡ false) → filter f (cells_before s c) ≡ cells_before (filter f s) c → filter f (cells_before (d ∷ s) c) ≡ cells_before (filter f (d ∷ s)) c
      go (inl q) (inl t) ih = rw (q, t) refl
      go (inl q) (inr t) ih = rw (q, t) (rw q (ap (λ (x : List Cell). d ∷ x) ih))
      go (inr q) t ih = let n = not_it d c p q in rw (q, n) (rw q ih)

  upto_filter : (s : List Cell) (c : Cell) → f c ≡ true → filter f (cells_upto s c) ≡ cells_upto (filter f s) c
  upto_filter [] c p = refl
  upto_filter (d ∷ s) c p = go (cases_Bool (f d)) (cases_Bool (same_cell d c)) (upto_filter s c p)
    where
      go : (f d ≡ true) ⊎ (f d ≡ false) → (same_cell d c ≡ true) ⊎ (same_cell d c ≡ false) → filter f (cells_upto s c) ≡ cells_upto (filter f s) c → filter f (cells_upto (d ∷ s) c) ≡ cells_upto (filter f (d ∷ s)) c
      go (inl q) (inl t) ih = rw (q, t) (rw q refl)
      go (inl q) (inr t) ih = rw (q, t) (rw q (ap (λ (x : List Cell). d ∷ x) ih))
      go (inr q) t ih = let n = not_it d c p q in rw (q, n) (rw q ih)

  both_pass : (p : Cell → Bool) (s : List Cell) → number (λ (c : Cell). f c && p c) s ≡ number p (filter f s)
  both_pass p [] = refl
  both_pass p (d ∷ s) = go (cases_Bool (f d)) (cases_Bool (p d)) (both_pass p s)
    where
      go : (f d ≡ true) ⊎ (f d ≡ false) → (p d ≡ true) ⊎ (p d ≡ false) → number (λ (c : Cell). f c && p c) s ≡ number p (filter f s) → number (λ (c : Cell). f c && p c) (d ∷ s) ≡ number p (filter f (d ∷ s))
      go (inl q) (inl r) ih = rw (q, r) (ap suc ih)
      go (inl q) (inr r) ih = rw (q, r) ih
      go (inr q) r ih = rw q ih

-- ---- places by fates

module _ (h g : History) (l : Lawful h) (m : Lawful (h ++ g)) where
  abbrev passes : Cell → Bool
  passes c = sees (version h) c.stamp

  part : filter (λ (c : Cell). sees (version h) c.stamp) (cells (seq (h ++ g))) ≡ cells (seq h)
  part = let w = fronts_seen h g l m in
      sym (cells_only (sees (version h)) (seq (h ++ g))) ∙ ap cells (sym (seq_closed (h ++ g) m (version h) w.0)) ∙ ap (λ (x : History). cells (seq x)) w.1

  was : (s : List Cell) → number (is_shown_at (h ++ g) (version h)) s ≡ number (shows h) (filter (λ (c : Cell). sees (version h) c.stamp) s)
  was s = ap (λ (x : History). number (λ (c : Cell). sees (version h) c.stamp && shows x c) s) (fronts_seen h g l m).1 ∙ both_pass (λ (c : Cell). sees (version h) c.stamp) (shows h) s

  -- the cells before a gap that was known
  then_cells : (n : ℕ) → number_then (take n (fates (h ++ g) (version h))) ≡ number (shows h) (filter (λ (c : Cell). sees (version h) c.stamp) (take n (cells (seq (h ++ g)))))
  then_cells n = ap number_then (take-map (λ (c : Cell). fate (is_shown_at (h ++ g) (version h) c) (shows (h ++ g) c)) n (cells (seq (h ++ g))))
      ∙ then_is (is_shown_at (h ++ g) (version h)) (shows (h ++ g)) (take n (cells (seq (h ++ g)))) ∙ was (take n (cells (seq (h ++ g))))

  now_cells : (n : ℕ) → number_now (take n (fates (h ++ g) (version h))) ≡ number (shows (h ++ g)) (take n (cells (seq (h ++ g))))
  now_cells n = ap number_now (take-map (λ (c : Cell). fate (is_shown_at (h ++ g) (version h) c) (shows (h ++ g) c)) n (cells (seq (h ++ g))))
      ∙ now_is (is_shown_at (h ++ g) (version h)) (shows (h ++ g)) (take n (cells (seq (h ++ g))))

  seen_edit : (t : Lamport) → has_edit h t ≡ true → sees (version h) t ≡ true
  seen_edit t i =
      let w = any_from (λ o. is_edit o && same_stamp (stamp_of o) t) h i in
      let q : stamp_of w.0 ≡ t = same_stamp_eq (stamp_of w.0) t (and_parts (is_edit w.0) (same_stamp (stamp_of w.0) t) w.2).1 in
      subst (λ (x : Lamport). sees (version h) x ≡ true) q (sees_own h w.0 w.1)

  known_seen : (t : Lamport) (k : ℕ) → is_known h (At t k Left) ≡ true → sees (version h) t ≡ true
  unfolding is_known
  known_seen t k e =
      let n : ℕ = length (new_bytes h t) in
      let a = and_parts (has_edit h t && is_boundary (new_bytes h t) k && Rattle.std.specs.Prelude.nat_le 1 k) (Rattle.std.specs.Prelude.nat_le k n) e in
      let b = and_parts (has_edit h t && is_boundary (new_bytes h t) k) (Rattle.std.specs.Prelude.nat_le 1 k) a.0 in
      seen_edit t (and_parts (has_edit h t) (is_boundary (new_bytes h t) k) b.0).0

  right_seen : (t : Lamport) (k : ℕ) → is_known h (At t k Right) ≡ true → sees (version h) t ≡ true
  unfolding is_known
  right_seen t k e =
      let a = and_parts (has_edit h t && is_boundary (new_bytes h t) k) (Rattle.std.specs.Prelude.nat_lt k (length (new_bytes h t))) e in
      seen_edit t (and_parts (has_edit h t) (is_boundary (new_bytes h t) k) a.0).0

  abbrev ThenIs : Anchor → Type 0
  ThenIs a = place h a ≡ number (shows h) (filter (λ (c : Cell). sees (version h) c.stamp) (take (gap (h ++ g) a).0 (cells (seq (h ++ g)))))

  all_taken : take (length (seq (h ++ g))) (cells (seq (h ++ g))) ≡ cells (seq (h ++ g))
  all_taken = take_all (length (seq (h ++ g))) (cells (seq (h ++ g))) (let n = length-map (seq (h ++ g)) (λ (p : PathCell). p.cell) in omega arith)

  place_then : (a : Anchor) → is_known h a ≡ true → ThenIs a
  unfolding place gap
  place_then Least e = refl
  place_then Greatest e = text_number h ∙ ap (number (shows h)) (sym part) ∙ ap (λ (s : List Cell). number (shows h) (filter (λ (c : Cell). sees (version h) c.stamp) s)) (sym all_taken)
  place_then (At t k Left) e =
      let c : Cell = record { stamp = t; k = k - 1 } in
      let s : List Cell = cells (seq (h ++ g)) in
      ap (λ (x : List Cell). number (shows h) (cells_upto x c)) (sym part) ∙ ap (number (shows h)) (sym (upto_filter (λ (c : Cell). sees (version h) c.stamp) s c (known_seen t k e)))
      ∙ ap (λ (x : List Cell). number (shows h) (filter (λ (c : Cell). sees (version h) c.stamp) x)) (upto_take s c)
  place_then (At t k Right) e =
      let c : Cell = record { stamp = t; k = k } in
      let s : List Cell = cells (seq (h ++ g)) in
      ap (λ (x : List Cell). number (shows h) (cells_before x c)) (sym part) ∙ ap (number (shows h)) (sym (before_filter (λ (c : Cell). sees (version h) c.stamp) s c (right_seen t k e)))
      ∙ ap (λ (x : List Cell). number (shows h) (filter (λ (c : Cell). sees (version h) c.stamp) x)) (before_take s c)

pub fate_places : PlacesByFates
fate_places h g l m = (
  λ a e. (place_then h g l m a e ∙ sym (then_cells h g l m (gap (h ++ g) a).0), gap_place (h ++ g) a ∙ sym (now_cells h g l m (gap (h ++ g) a).0)),
  text_number h ∙ ap (number (shows h)) (sym (part h g l m)) ∙ sym (was h g l m (cells (seq (h ++ g)))) ∙ sym (then_is (is_shown_at (h ++ g) (version h)) (shows (h ++ g)) (cells (seq (h ++ g)))),
  text_number (h ++ g) ∙ sym (now_is (is_shown_at (h ++ g) (version h)) (shows (h ++ g)) (cells (seq (h ++ g)))),
)

-- ---- anchors that are made

got_less : {A : Type 0} (s : List A) (o : ℕ) (c : A) → slice_get s o ≡ Some c → o < length s
got_less [] o c e = cc
got_less (x ∷ s) zero c e = omega arith
got_less (x ∷ s) (suc o) c e = let i = got_less s o c e in omega arith

pub made_again : ShownAnchorsAreMadeAgain
unfolding left_anchor right_anchor
made_again h l o c e = (lefts, rights, left_place h d (suc o) (At c.stamp (suc c.k) Left) lefts, right_place h d o (At c.stamp c.k Right) rights)
  where
    d : Distinct h
    d = (lawful_ready h l).0.distinct

    lefts : left_anchor h (suc o) ≡ Some (At c.stamp (suc c.k) Left)
    lefts = ap (option_map (λ (c : Cell). At c.stamp (suc c.k) Left)) e

    rights : right_anchor h o ≡ Some (At c.stamp c.k Right)
    rights = let i = got_less (shown_cells h) o c e in let n = text_length h l in let t : eqb o (length (text h)) ≡ false = ne_eqb o (length (text h)) (λ q. omega (arith, i, n, q)) in
        rw t (ap (option_map (λ (c : Cell). At c.stamp c.k Right)) e)

-- ---- their order

less_sides : (x y : ℕ) → x ≤ y → ordering_then (nat_cmp x y) (nat_cmp 0 1) ≡ Less
less_sides x y l = grind (arith, nat_tests, l)

less_gaps : (x y u v : ℕ) → x < y → ordering_then (nat_cmp x y) (nat_cmp u v) ≡ Less
less_gaps x y u v l = grind (arith, nat_tests, l)

left_side : (h : History) (o : ℕ) (a : Anchor) → left_anchor h o ≡ Some a → (gap h a).1 ≡ 0
unfolding left_anchor gap
left_side h zero a e = let i : Least ≡ a = cc in subst (λ (x : Anchor). (gap h x).1 ≡ 0) i refl
left_side h (suc o) a e = go (slice_get (shown_cells h) o) e
  where
    go : (g : Option Cell) → option_map (λ (c : Cell). At c.stamp (suc c.k) Left) g ≡ Some a → (gap h a).1 ≡ 0
    go None e = cc
    go (Some c) e = let i : At c.stamp (suc c.k) Left ≡ a = cc in subst (λ (x : Anchor). (gap h x).1 ≡ 0) i refl

right_side : (h : History) (o : ℕ) (a : Anchor) → right_anchor h o ≡ Some a → (gap h a).1 ≡ 1
unfolding right_anchor gap
right_side h o a e = at_end (cases_Bool (eqb o (length (text h))))
  where
    go : (g : Option Cell) → option_map (λ (c : Cell). At c.stamp c.k Right) g ≡ Some a → (gap h a).1 ≡ 1
    go None e = cc
    go (Some c) e = let i : At c.stamp c.k Right ≡ a = cc in subst (λ (x : Anchor). (gap h x).1 ≡ 1) i refl

    at_end : (eqb o (length (text h)) ≡ true) ⊎ (eqb o (length (text h)) ≡ false) → (gap h a).1 ≡ 1
    at_end (inl t) = let f : Some Greatest ≡ Some a = rw t at e in let i : Greatest ≡ a = cc in subst (λ (x : Anchor). (gap h x).1 ≡ 1) i refl
    at_end (inr t) = go (slice_get (shown_cells h) o) (rw t at e)

-- a gap that is less by the places
gap_less : (h : History) (a b : Anchor) → place h a < place h b → (gap h a).0 < (gap h b).0
gap_less h a b l = elim (cases_lt (gap h a).0 (gap h b).0) [
  | inl t ↦ t
  | inr t ↦ (let k = take_number (shows h) (gap h b).0 (gap h a).0 (cells (seq h)) t in let x = gap_place h a in let y = gap_place h b in absurd (omega (arith, k, x, y, l)))
]

-- the gap after a shown cell is not after one with as many shown cells before it
left_before : (h : History) → Distinct h → (s : ℕ) (a b : Anchor) → left_anchor h s ≡ Some a → s ≤ place h b → (gap h a).0 ≤ (gap h b).0
unfolding left_anchor gap
left_before h d zero a b e l = let i : Least ≡ a = cc in subst (λ (x : Anchor). (gap h x).0 ≤ (gap h b).0) i (omega arith)
left_before h d (suc o) a b e l = go (slice_get (shown_cells h) o) refl e
  where
    go : (g : Option Cell) → slice_get (shown_cells h) o ≡ g → option_map (λ (c : Cell). At c.stamp (suc c.k) Left) g ≡ Some a → (gap h a).0 ≤ (gap h b).0
    go None q e = cc
    go (Some c) q e =
        let s : List Cell = cells (seq h) in
        let i : At c.stamp (suc c.k) Left ≡ a = cc in
        let r : record { stamp = c.stamp; k = suc c.k - 1 } ≡ c = (let z : suc c.k - 1 ≡ c.k = omega arith in λ j. record { stamp = c.stamp; k = z j }) in
        let n : length (cells_upto s c) ≡ suc (length (cells_before s c)) = upto_pos s c (got_member (shows h) s o c q) in
        let w : number (shows h) (cells_before s c) ≡ o = before_count (shows h) s o c (once h d) q in
        let f : length (cells_upto s c) ≤ (gap h b).0 = elim (cases_lt (gap h b).0 (length (cells_upto s c))) [
          | inl t ↦ (let k = take_number (shows h) (gap h b).0 (length (cells_before s c)) s (omega (arith, n, t)) in
              let x = gap_place h b in
              let y : number (shows h) (take (length (cells_before s c)) s) ≡ o = ap (number (shows h)) (sym (before_take s c)) ∙ w in
              absurd (omega (arith, k, x, y, l)))
          | inr t ↦ t
        ] in
        subst (λ (x : Anchor). (gap h x).0 ≤ (gap h b).0) i (subst (λ (x : Cell). length (cells_upto s x) ≤ (gap h b).0) (sym r) f)

pub ends_in_order : MadeAnchorsStandInOrder
unfolding compare_anchors
ends_in_order h l s e a b = (
  λ m p q. (let d = (lawful_ready h l).0.distinct in
      let x = right_place h d s a p in
      let y = left_place h d e b q in
      less_gaps (gap h a).0 (gap h b).0 (gap h a).1 (gap h b).1 (gap_less h a b (omega (arith, m, x, y)))),
  λ m p q. (let d = (lawful_ready h l).0.distinct in
      let y = right_place h d e b q in
      let i = left_side h s a p in
      let j = right_side h e b q in
      let k = left_before h d s a b p (omega (arith, m, y)) in
      ap (λ (n : ℕ). ordering_then (nat_cmp (gap h a).0 (gap h b).0) (nat_cmp n (gap h b).1)) i ∙ ap (λ (n : ℕ). ordering_then (nat_cmp (gap h a).0 (gap h b).0) (nat_cmp 0 n)) j
      ∙ less_sides (gap h a).0 (gap h b).0 k),
)
