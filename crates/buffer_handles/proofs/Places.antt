-- A place of a text, found again by its offset, and in all kinds of position.
use Rattle.std.proofs.Common.{◌≡◌, ◌≤◌, ◌<◌, ℕ, ◌+◌, arith, List, [], ◌∷◌, Bool, true, false, cond, Option, None, Some, refl, sym, ap, subst, ◌∙◌, ◌==◌}
use Rattle.std.specs.List.{find}
use Rattle.std.specs.Option.{option_map}
use Rattle.std.proofs.lemmas.Bool.{eqb-true, eq-eqb, ne_eqb}
use Rattle.text_dims.specs.declared.places.Place.{Place}
use Rattle.text_dims.specs.declared.points.Point.{Point}
use Rattle.text_dims.specs.declared.points.PointUtf16.{PointUtf16}
use Rattle.text_dims.specs.declared.points.OffsetUtf16.{OffsetUtf16}
use Rattle.text_dims.specs.Counts.{begins_char, is_newline}
use Rattle.text_dims.specs.Places.{end_place, offset_utf16_of, place_after, place_at_offset, place_at_point, place_at_point_utf16, place_at_utf16, places, point_of, point_utf16_of, walk}
use Rattle.text_dims.proofs.PlacePoints.{place_at_its_point}
use Rattle.text_dims.proofs.Walks.{places-walk}
use Rattle.rope_chunks.specs.Offsets.{offset_of}
use Rattle.buffer_handles.specs.declared.positions.Position.{Position}
use Rattle.buffer_handles.specs.Positions.{flat_place}

-- ---- what is found on a walk

after_by : (a m n : Place) (t : Bool) → m.offset ≡ a.offset + 1 → n.offset ≡ a.offset + 1 → (cond t m n).offset ≡ a.offset + 1
after_by a m n true f g = f
after_by a m n false f g = g

-- the place after a byte is one byte on
offset-place_after : (a : Place) (b : ℕ) → (place_after a b).offset ≡ a.offset + 1
offset-place_after a b = after_by a _ _ (is_newline b) refl refl

found_by : (a k : Place) (t : Bool) (o : Option Place) → (o ≡ Some k → a.offset ≤ k.offset) → cond t (Some a) o ≡ Some k → a.offset ≤ k.offset
found_by a k true o h e = let same : a ≡ k = cc e in subst (λ (m : Place). a.offset ≤ m.offset) same (omega arith)
found_by a k false o h e = h e

found_from : (p : Place → Bool) (a : Place) (bs : List ℕ) (k : Place) → find p (walk a bs) ≡ Some k → a.offset ≤ k.offset
found_from p a [] k e = found_by a k (p a) None (λ z. absurd (cc z)) e
found_from p a (b ∷ bs) k e =
    let next : Place = place_after a b in
    let on : next.offset ≡ a.offset + 1 = offset-place_after a b in
    let later : find p (walk next bs) ≡ Some k → a.offset ≤ k.offset = λ f. omega (arith, on, found_from p next bs k f) in
    (elim (begins_char b) as (λ (t : Bool). find p (cond t (a ∷ walk next bs) (walk next bs)) ≡ Some k → a.offset ≤ k.offset) [
      | true ↦ found_by a k (p a) (find p (walk next bs)) later
      | false ↦ later
    ]) e

abbrev is_at : Place → Place → Bool
is_at k m = m.offset == k.offset

head_found : (a k : Place) (t : Bool) (o p : Option Place) → (o ≡ Some k → (is_at k a ≡ false) × (p ≡ Some k)) → cond t (Some a) o ≡ Some k → cond (is_at k a) (Some a) p ≡ Some k
head_found a k true o p h e =
    let same : a ≡ k = cc e in
    subst (λ (m : Place). cond (is_at m a) (Some a) p ≡ Some m) same (ap (λ t. cond t (Some a) p) (eq-eqb a.offset a.offset refl))
head_found a k false o p h e = let f = h e in ap (λ t. cond t (Some a) p) f.0 ∙ f.1

offset_found : (p : Place → Bool) (a : Place) (bs : List ℕ) (k : Place) → find p (walk a bs) ≡ Some k → find (is_at k) (walk a bs) ≡ Some k
offset_found p a [] k e = head_found a k (p a) None None (λ z. absurd (cc z)) e
offset_found p a (b ∷ bs) k e =
    let next : Place = place_after a b in
    let on : next.offset ≡ a.offset + 1 = offset-place_after a b in
    (elim (begins_char b) as (λ (t : Bool). find p (cond t (a ∷ walk next bs) (walk next bs)) ≡ Some k → find (is_at k) (cond t (a ∷ walk next bs) (walk next bs)) ≡ Some k) [
      | true ↦ head_found a k (p a) (find p (walk next bs)) (find (is_at k) (walk next bs))
          (λ f. (ne_eqb a.offset k.offset (λ z. omega (arith, z, on, found_from p next bs k f)), offset_found p next bs k f))
      | false ↦ offset_found p next bs k
    ]) e

-- a place that is found by any test is found by its offset
pub place_at_its_offset : (bs : List ℕ) (p : Place → Bool) (k : Place) → find p (places bs) ≡ Some k → place_at_offset bs k.offset ≡ Some k
place_at_its_offset bs p k e =
    subst (λ (ks : List Place). find p ks ≡ Some k → find (is_at k) ks ≡ Some k) (sym (places-walk bs)) (offset_found p (end_place []) bs k) e

found_true_by : (p : Place → Bool) (a k : Place) (t : Bool) (o : Option Place) → p a ≡ t → (o ≡ Some k → p k ≡ true) → cond t (Some a) o ≡ Some k → p k ≡ true
found_true_by p a k true o is h e = let same : a ≡ k = cc e in subst (λ (m : Place). p m ≡ true) same is
found_true_by p a k false o is h e = h e

-- what is found passes the test
found_true : (p : Place → Bool) (ks : List Place) (k : Place) → find p ks ≡ Some k → p k ≡ true
found_true p [] k e = absurd (cc e)
found_true p (a ∷ ks) k e = found_true_by p a k (p a) (find p ks) refl (found_true p ks k) e

-- the place at an offset has that offset
pub offset_found_at : (bs : List ℕ) (o : ℕ) (k : Place) → place_at_offset bs o ≡ Some k → k.offset ≡ o
offset_found_at bs o k e = eqb-true k.offset o (found_true (λ (m : Place). m.offset == o) (places bs) k e)

-- ---- the place at an offset, in all kinds

module _ (bs : List ℕ) (o : ℕ) where
  by_place : (k : Option Place) → place_at_offset bs o ≡ k → (p : Point) (u : OffsetUtf16) (q : PointUtf16) → Some p ≡ option_map point_of k → Some u ≡ option_map offset_utf16_of k
      → Some q ≡ option_map point_utf16_of (place_at_point bs p)
      → Some (record { offset = o; utf16 = u.0; row = p.row; column = p.column; column_utf16 = q.column }) ≡ option_map flat_place k
  by_place None e p u q f g h = absurd (cc f)
  by_place (Some k) e p u q f g h =
      let one : p ≡ point_of k = cc f in
      let two : u ≡ offset_utf16_of k = cc g in
      let same : place_at_point bs p ≡ Some k = ap (place_at_point bs) one ∙ place_at_its_point bs o k e in
      let last : Some q ≡ Some (point_utf16_of k) = h ∙ ap (option_map point_utf16_of) same in
      let three : q ≡ point_utf16_of k = cc last in
      let four : k.offset ≡ o = offset_found_at bs o k e in
      cc (one, two, three, four)

  pub position_found : (p : Point) (u : OffsetUtf16) (q : PointUtf16) → Some p ≡ option_map point_of (place_at_offset bs o) → Some u ≡ option_map offset_utf16_of (place_at_offset bs o)
      → Some q ≡ option_map point_utf16_of (place_at_point bs p)
      → Some (record { offset = o; utf16 = u.0; row = p.row; column = p.column; column_utf16 = q.column }) ≡ option_map flat_place (place_at_offset bs o)
  position_found p u q f g h = by_place (place_at_offset bs o) refl p u q f g h

  no_point_by : (k : Option Place) → place_at_offset bs o ≡ k → (p : Point) → Some p ≡ option_map point_of k → None ≡ option_map point_utf16_of (place_at_point bs p) → ⊥
  no_point_by None e p f h = absurd (cc f)
  no_point_by (Some k) e p f h =
      let one : p ≡ point_of k = cc f in
      let same : place_at_point bs p ≡ Some k = ap (place_at_point bs) one ∙ place_at_its_point bs o k e in
      let last : None ≡ Some (point_utf16_of k) = h ∙ ap (option_map point_utf16_of) same in
      cc last

  -- the point of a place is a point of the text
  pub no_point : (p : Point) → Some p ≡ option_map point_of (place_at_offset bs o) → None ≡ option_map point_utf16_of (place_at_point bs p) → ⊥
  no_point p f h = no_point_by (place_at_offset bs o) refl p f h

-- where one answer about a place is none, there is no place
pub no_place : {A B : Type 0} (f : Place → A) (g : Place → B) (k : Option Place) → None ≡ option_map f k → None ≡ option_map g k
no_place f g None e = refl
no_place f g (Some k) e = absurd (cc e)

pub not_found : {A B : Type 0} (f : Place → A) (g : Place → B) (k : Option Place) (x : A) → Some x ≡ option_map f k → None ≡ option_map g k → ⊥
not_found f g None x d e = cc d
not_found f g (Some k) x d e = cc e

-- ---- places that are found by something else

-- by any test, and then by the offset
found_again_by : (bs : List ℕ) (p : Place → Bool) (k : Option Place) → find p (places bs) ≡ k → (o : ℕ) → Some o ≡ option_map offset_of k → option_map flat_place (place_at_offset bs o) ≡ option_map flat_place k
found_again_by bs p None e o f = absurd (cc f)
found_again_by bs p (Some k) e o f =
    let is : o ≡ k.offset = cc f in
    ap (option_map flat_place) (ap (place_at_offset bs) is ∙ place_at_its_offset bs p k e)

pub utf16_found : (bs : List ℕ) (u : OffsetUtf16) (o : ℕ) → Some o ≡ option_map offset_of (place_at_utf16 bs u) → option_map flat_place (place_at_offset bs o) ≡ option_map flat_place (place_at_utf16 bs u)
utf16_found bs u o f = found_again_by bs (λ k. k.utf16 == u.0) (place_at_utf16 bs u) refl o f

pub point_found : (bs : List ℕ) (p : Point) (o : ℕ) → Some o ≡ option_map offset_of (place_at_point bs p) → option_map flat_place (place_at_offset bs o) ≡ option_map flat_place (place_at_point bs p)
point_found bs p o f = found_again_by bs _ (place_at_point bs p) refl o f

point_again_by : (bs : List ℕ) (p : Place → Bool) (k : Option Place) → find p (places bs) ≡ k → (q : Point) → Some q ≡ option_map point_of k → option_map flat_place (place_at_point bs q) ≡ option_map flat_place k
point_again_by bs p None e q f = absurd (cc f)
point_again_by bs p (Some k) e q f =
    let is : q ≡ point_of k = cc f in
    ap (option_map flat_place) (ap (place_at_point bs) is ∙ place_at_its_point bs k.offset k (place_at_its_offset bs p k e))

pub point_utf16_found : (bs : List ℕ) (w : PointUtf16) (q : Point) → Some q ≡ option_map point_of (place_at_point_utf16 bs w) → option_map flat_place (place_at_point bs q) ≡ option_map flat_place (place_at_point_utf16 bs w)
point_utf16_found bs w q f = point_again_by bs _ (place_at_point_utf16 bs w) refl q f
