-- Anchors that are made at a boundary resolve to it.
use Rattle.std.proofs.Common.{◌≡◌, ℕ, zero, suc, ◌<◌, ◌≤◌, ◌⊎◌, Bool, List, [], ◌∷◌, ◌++◌, length, map, get_or, refl, sym, ◌∙◌, ap, subst, inl, inr, true, false, cond, eqb, ltb, arith, Some, None, Option}
use Rattle.std.specs.Prelude.{option_map, slice_get, is_some, not, IsCharBoundary}
use Rattle.std.specs.List.{AllByRecursion, filter}
use Rattle.std.proofs.lemmas.Bool.{cases_Bool, ltb-false, le-leb, not-false}
use Rattle.std.proofs.lemmas.Bool.Decides.{nat_tests}
use Rattle.std.proofs.lemmas.List.{length-map, map-append}
use Rattle.op_model.specs.declared.anchor.Anchor.{Anchor}
use Rattle.op_model.specs.declared.anchor.Anchor.TheVariants.{Least, Greatest, At}
use Rattle.op_model.specs.declared.anchor.Bias.TheVariants.{Left, Right}
use Rattle.op_model.specs.declared.faults.PlaceFault.TheVariants.{PastEnd, InsideChar}
use Rattle.op_model.specs.Choice.{first_of, when}
use Rattle.op_model.specs.Edits.{is_boundary}
use Rattle.op_model.specs.Histories.{History, Distinct}
use Rattle.op_model.specs.Domains.{IsProper}
use Rattle.op_model.specs.Cells.{Cell, same_cell, seq, cells}
use Rattle.op_model.specs.Shown.{new_bytes, IsCell, byte, shows, text}
use Rattle.op_model.specs.Facts.{Fact, Continues, fact, cell_facts}
use Rattle.op_model.specs.Lawful.{Lawful}
use Rattle.op_model.specs.Anchors.{shown_cells, left_anchor, right_anchor, is_known, place_fault, known_place}
use Rattle.op_model.proofs.order.PathOrder.{same_cell_eq, same_cell_refl}
use Rattle.op_model.proofs.answers.Passed.{first_none, when_none}
use Rattle.op_model.proofs.answers.Good.{lawful_ready}
use Rattle.op_model.proofs.order.CellsOnce.{all_cells}
use Rattle.op_model.proofs.texts.WholeTexts.{boundary_of, of_boundary, lawful_whole}
use Rattle.op_model.proofs.answers.SameAnswers.{text_is}
use Rattle.op_model.proofs.anchors.AnchorPlaces.{got_member, left_place, right_place}
use Rattle.op_model.proofs.anchors.KnownAnchors.{edit_there, got_map, right_known}
use Rattle.op_model.proofs.texts.WholeRuns.{Texts, told_apart, told_last}
use Rattle.op_model.proofs.texts.WholeWalks.{texts_of}

-- ---- what stands before and after a shown cell

-- s is xs, then c, then ys, and o of xs pass
abbrev Around : (Cell → Bool) → List Cell → ℕ → Cell → Type 0
Around f s o c = (xs : List Cell) × (ys : List Cell) × (s ≡ xs ++ c ∷ ys) × (f c ≡ true) × (length (filter f xs) ≡ o)

around : (f : Cell → Bool) (s : List Cell) (o : ℕ) (c : Cell) → slice_get (filter f s) o ≡ Some c → Around f s o c
around f [] o c e = cc
around f (d ∷ s) o c e = go (cases_Bool (f d)) (λ n g. around f s n c g)
  where
    front : (n : ℕ) → f d ≡ true → slice_get (d ∷ filter f s) n ≡ Some c → ((m : ℕ) → slice_get (filter f s) m ≡ Some c → Around f s m c) → Around f (d ∷ s) n c
    front zero v g ih = let i : d ≡ c = cc in ([], s, ap (λ (x : Cell). x ∷ s) i, subst (λ (x : Cell). f x ≡ true) i v, refl)
    front (suc n) v g ih = let w = ih n g in (d ∷ w.0, w.1, ap (λ (z : List Cell). d ∷ z) w.2, w.3, rw v (ap suc w.4))

    go : (f d ≡ true) ⊎ (f d ≡ false) → ((m : ℕ) → slice_get (filter f s) m ≡ Some c → Around f s m c) → Around f (d ∷ s) o c
    go (inl v) ih = front o v (rw v at e) ih
    go (inr v) ih = let w = ih o (rw v at e) in (d ∷ w.0, w.1, ap (λ (z : List Cell). d ∷ z) w.2, w.3, rw v w.4)

next_shown : (f : Cell → Bool) (xs : List Cell) (c d : Cell) (ys : List Cell) (o : ℕ) → f c ≡ true → f d ≡ true → length (filter f xs) ≡ o → slice_get (filter f (xs ++ c ∷ d ∷ ys)) (suc o) ≡ Some d
next_shown f [] c d ys o p q e = let z : suc o ≡ 1 = omega arith in rw (p, q) (ap (slice_get (c ∷ d ∷ filter f ys)) z)
next_shown f (x ∷ xs) c d ys o p q e = go (cases_Bool (f x)) (λ n i. next_shown f xs c d ys n p q i)
  where
    one : (m : ℕ) → suc (length (filter f xs)) ≡ m → ((n : ℕ) → length (filter f xs) ≡ n → slice_get (filter f (xs ++ c ∷ d ∷ ys)) (suc n) ≡ Some d)
        → slice_get (x ∷ filter f (xs ++ c ∷ d ∷ ys)) (suc m) ≡ Some d
    one zero i ih = absurd (omega arith)
    one (suc m) i ih = ih m (omega arith)

    go : (f x ≡ true) ⊎ (f x ≡ false) → ((n : ℕ) → length (filter f xs) ≡ n → slice_get (filter f (xs ++ c ∷ d ∷ ys)) (suc n) ≡ Some d) → slice_get (filter f ((x ∷ xs) ++ c ∷ d ∷ ys)) (suc o) ≡ Some d
    go (inl v) ih = rw v (one o (rw v at e) ih)
    go (inr v) ih = rw v (ih o (rw v at e))

got_some : {A : Type 0} (s : List A) (o : ℕ) → o < length s → is_some (slice_get s o) ≡ true
got_some [] o l = absurd (omega arith)
got_some (x ∷ s) zero l = refl
got_some (x ∷ s) (suc o) l = got_some s o (omega arith)

map_some : {A B : Type 0} (f : A → B) (o : Option A) → is_some o ≡ true → is_some (option_map f o) ≡ true
map_some f None e = e
map_some f (Some x) e = refl

-- ---- anchors

module _ (h : History) (l : Lawful h) (proper : AllByRecursion IsProper h) where
  d : Distinct h
  d = (lawful_ready h l).0.distinct

  -- where the text has a boundary after a shown cell, a character of the cell's text ends after it
  left_end : (o : ℕ) (c : Cell) → slice_get (shown_cells h) o ≡ Some c → is_boundary (text h) (suc o) ≡ true → IsCharBoundary (new_bytes h c.stamp) (suc c.k)
  left_end o c q b = go (around (shows h) (cells (seq h)) o c q)
    where
      u : Texts h
      u = texts_of h proper

      told_is : (xs ys : List Cell) → cells (seq h) ≡ xs ++ c ∷ ys → cell_facts h ≡ map (fact h) xs ++ fact h c ∷ map (fact h) ys
      told_is xs ys e = ap (map (fact h)) e ∙ map-append (fact h) xs (c ∷ ys)

      apart : (y : Cell) (ys : List Cell) (xs : List Cell) → cells (seq h) ≡ xs ++ c ∷ y ∷ ys → (Continues (fact h c) (fact h y) → ⊥) → IsCharBoundary (new_bytes h c.stamp) (suc c.k)
      apart y ys xs e n = (told_apart h d u (lawful_whole h l u) (map (fact h) xs) (map (fact h) ys) (fact h c) (fact h y) (told_is xs (y ∷ ys) e) n).0

      go : Around (shows h) (cells (seq h)) o c → IsCharBoundary (new_bytes h c.stamp) (suc c.k)
      go w = behind w.1 w.2
        where
          behind : (ys : List Cell) → cells (seq h) ≡ w.0 ++ c ∷ ys → IsCharBoundary (new_bytes h c.stamp) (suc c.k)
          behind [] e = told_last h d u (lawful_whole h l u) (map (fact h) w.0) (fact h c) (told_is w.0 [] e)
          behind (y ∷ ys) e = next (cases_Bool (same_cell y (record { stamp = c.stamp; k = suc c.k }))) (cases_Bool (shows h y))
            where
              other : same_cell y (record { stamp = c.stamp; k = suc c.k }) ≡ false → Continues (fact h c) (fact h y) → ⊥
              other n i =
                  let j : y ≡ record { stamp = c.stamp; k = suc c.k } = ap (λ (z : Fact). z.cell) i in
                  let z : same_cell (record { stamp = c.stamp; k = suc c.k }) (record { stamp = c.stamp; k = suc c.k }) ≡ false = subst (λ (x : Cell). same_cell x (record { stamp = c.stamp; k = suc c.k }) ≡ false) j n in
                  let t = same_cell_refl (record { stamp = c.stamp; k = suc c.k }) in cc

              unlike : shows h y ≡ false → Continues (fact h c) (fact h y) → ⊥
              unlike n i = let j : shows h y ≡ shows h c = ap (λ (z : Fact). z.visible) i in let k = w.3 in cc

              next : (same_cell y (record { stamp = c.stamp; k = suc c.k }) ≡ true) ⊎ (same_cell y (record { stamp = c.stamp; k = suc c.k }) ≡ false) → (shows h y ≡ true) ⊎ (shows h y ≡ false)
                  → IsCharBoundary (new_bytes h c.stamp) (suc c.k)
              next (inr n) v = apart y ys w.0 e (other n)
              next (inl i) (inr n) = apart y ys w.0 e (unlike n)
              next (inl i) (inl v) =
                  let j : y ≡ record { stamp = c.stamp; k = suc c.k } = same_cell_eq y (record { stamp = c.stamp; k = suc c.k }) i in
                  let g : slice_get (shown_cells h) (suc o) ≡ Some y = ap (λ (z : List Cell). slice_get (filter (shows h) z) (suc o)) e ∙ next_shown (shows h) w.0 c y ys o w.3 v w.4 in
                  let n : IsCell h y = (all_cells h d y).0 (got_member (shows h) (cells (seq h)) (suc o) y g) in
                  let m = got_map (byte h) (shown_cells h) (suc o) y g in
                  let t : text h ≡ map (byte h) (shown_cells h) = text_is h d in
                  let s : suc o < length (text h) = subst (λ (z : List ℕ). suc o < length z) (sym t) m.0 in
                  let k : get_or (text h) (suc o) 0 ≡ byte h y = ap (λ (z : List ℕ). get_or z (suc o) 0) t ∙ m.1 in
                  let x : IsCell h (record { stamp = c.stamp; k = suc c.k }) = subst (IsCell h) j n in
                  let z : get_or (text h) (suc o) 0 ≡ get_or (new_bytes h c.stamp) (suc c.k) 0 = k ∙ ap (byte h) j in
                  (omega (arith, x), λ p r. subst (λ (a : ℕ). 192 ≤ a) z ((boundary_of (text h) (suc o) b).1 s (subst (λ (a : ℕ). 128 ≤ a) (sym z) r)))

  left_known : (o : ℕ) (a : Anchor) → is_boundary (text h) o ≡ true → left_anchor h o ≡ Some a → is_known h a ≡ true
  unfolding left_anchor is_known
  left_known zero a b e = let i : Least ≡ a = cc in subst (λ (x : Anchor). is_known h x ≡ true) i refl
  left_known (suc o) a b e = go (slice_get (shown_cells h) o) refl e
    where
      go : (g : Option Cell) → slice_get (shown_cells h) o ≡ g → option_map (λ (c : Cell). At c.stamp (suc c.k) Left) g ≡ Some a → is_known h a ≡ true
      go None q i = cc
      go (Some c) q i =
          let j : At c.stamp (suc c.k) Left ≡ a = cc in
          let n : IsCell h c = (all_cells h d c).0 (got_member (shows h) (cells (seq h)) o c q) in
          let w : is_boundary (new_bytes h c.stamp) (suc c.k) ≡ true = of_boundary (new_bytes h c.stamp) (suc c.k) (left_end o c q b) in
          subst (λ (x : Anchor). is_known h x ≡ true) j
          (rw (edit_there h c.stamp c.k n, w, le-leb 1 (suc c.k) (omega arith), le-leb (suc c.k) (length (new_bytes h c.stamp)) (omega (arith, n))) refl)

  number_of : length (text h) ≡ length (shown_cells h)
  number_of = ap length (text_is h d) ∙ length-map (shown_cells h) (byte h)

  left_there : (k : ℕ) → k ≤ length (text h) → is_some (left_anchor h k) ≡ true
  unfolding left_anchor
  left_there zero m = refl
  left_there (suc k) m = map_some (λ (c : Cell). At c.stamp (suc c.k) Left) (slice_get (shown_cells h) k) (got_some (shown_cells h) k (let n = number_of in omega arith))

  right_there : (o : ℕ) → o ≤ length (text h) → is_some (right_anchor h o) ≡ true
  unfolding right_anchor
  right_there o m = go (cases_Bool (eqb o (length (text h))))
    where
      less : (x y z : ℕ) → x ≤ y → eqb x y ≡ false → y ≡ z → x < z
      less x y z i j k = grind (arith, nat_tests)

      go : (eqb o (length (text h)) ≡ true) ⊎ (eqb o (length (text h)) ≡ false) → is_some (cond (eqb o (length (text h))) (Some Greatest) (option_map (λ (c : Cell). At c.stamp c.k Right) (slice_get (shown_cells h) o))) ≡ true
      go (inl t) = rw t refl
      go (inr t) = rw t (map_some (λ (c : Cell). At c.stamp c.k Right) (slice_get (shown_cells h) o) (got_some (shown_cells h) o (less o (length (text h)) (length (shown_cells h)) m t number_of)))

  pub both_resolve : (o : ℕ) → place_fault h o ≡ None
      → (is_some (left_anchor h o) ≡ true) × (is_some (right_anchor h o) ≡ true)
      × ((a : Anchor) → left_anchor h o ≡ Some a → known_place h a ≡ Some o) × ((a : Anchor) → right_anchor h o ≡ Some a → known_place h a ≡ Some o)
  both_resolve o e = (left_there o within, right_there o within, left_back, right_back)
    where
      parts : ((when (ltb (length (text h)) o) (PastEnd (length (text h))) ≡ None)) × (first_of (when (not (is_boundary (text h) o)) InsideChar ∷ []) ≡ None)
      parts = first_none (when (ltb (length (text h)) o) (PastEnd (length (text h)))) (when (not (is_boundary (text h) o)) InsideChar ∷ []) e

      within : o ≤ length (text h)
      within = ltb-false (length (text h)) o (when_none (ltb (length (text h)) o) (PastEnd (length (text h))) parts.0)

      bound : is_boundary (text h) o ≡ true
      bound = not-false (is_boundary (text h) o) (when_none (not (is_boundary (text h) o)) InsideChar (first_none (when (not (is_boundary (text h) o)) InsideChar) [] parts.1).0)

      left_back : (a : Anchor) → left_anchor h o ≡ Some a → known_place h a ≡ Some o
      left_back a i = let k = left_known o a bound i in rw k (ap Some (left_place h d o a i))

      right_back : (a : Anchor) → right_anchor h o ≡ Some a → known_place h a ≡ Some o
      right_back a i = let k = right_known h d o a bound i in rw k (ap Some (right_place h d o a i))
