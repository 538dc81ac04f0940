-- The place at an offset is the place at its point.
use Rattle.std.proofs.Common.{ℕ, [], ◌≡◌, ◌≤◌, ◌<◌, arith, ◌+◌, Bool, true, false, cond, ◌∙◌, refl, Option, Some, subst, List, ◌∷◌, None, ◌==◌, ◌&&◌, ap, sym}
use Rattle.std.specs.List.{find}
use Rattle.std.proofs.lemmas.Bool.{eqb-true, ne_eqb, eq-eqb}
use Rattle.text_dims.specs.declared.places.Place.{Place}
use Rattle.text_dims.specs.Counts.{is_newline, begins_char}
use Rattle.text_dims.specs.Places.{place_after, walk, end_place, place_at_offset, place_at_point, point_of}
use Rattle.text_dims.proofs.Walks.{places-walk}

-- ---- the order of places

-- k is a, or behind it
record IsFrom (a k : Place) : Type 0 where
  pub rows : a.row ≤ k.row
  pub columns : a.row ≡ k.row → a.column ≤ k.column

-- k is behind a
record IsBehind (a k : Place) : Type 0 where
  pub rows : a.row ≤ k.row
  pub columns : a.row ≡ k.row → a.column < k.column

from_itself : (a : Place) → IsFrom a a
from_itself a = record { rows = omega arith; columns = λ e. omega arith }

from_behind : (a k : Place) → IsBehind a k → IsFrom a k
from_behind a k f = record { rows = f.rows; columns = λ e. omega (arith, f.columns e) }

-- the place behind a byte is behind the place before it
behind_by : (a k m n : Place) (t : Bool) → m.row ≡ a.row + 1 → n.row ≡ a.row → n.column ≡ a.column + 1 → IsFrom (cond t m n) k → IsBehind a k
behind_by a k m n true r s c f = record { rows = omega (arith, r, f.rows); columns = λ e. absurd (omega (arith, r, f.rows, e)) }
behind_by a k m n false r s c f = record { rows = omega (arith, s, f.rows); columns = λ e. omega (arith, c, f.columns (s ∙ e)) }

behind_after : (a k : Place) (b : ℕ) → IsFrom (place_after a b) k → IsBehind a k
behind_after a k b f = behind_by a k _ _ (is_newline b) refl refl refl f

-- ---- what is found on a walk

found_by : (a k : Place) (t : Bool) (o : Option Place) → (o ≡ Some k → IsFrom a k) → cond t (Some a) o ≡ Some k → IsFrom a k
found_by a k true o h e = let same : a ≡ k = cc e in subst (IsFrom a) same (from_itself a)
found_by a k false o h e = h e

found_from : (p : Place → Bool) (a : Place) (bs : List ℕ) (k : Place) → find p (walk a bs) ≡ Some k → IsFrom a k
found_from p a [] k e = found_by a k (p a) None (λ z. absurd (cc z)) e
found_from p a (b ∷ bs) k e =
    let next : Place = place_after a b in
    let later : find p (walk next bs) ≡ Some k → IsFrom a k = λ f. from_behind a k (behind_after a k b (found_from p next bs k f)) in
    (elim (begins_char b) as (λ (t : Bool). find p (cond t (a ∷ walk next bs) (walk next bs)) ≡ Some k → IsFrom a k) [
      | true ↦ found_by a k (p a) (find p (walk next bs)) later
      | false ↦ later
    ]) e

-- ---- the place at a point

abbrev stands : Place → Place → Bool
stands k m = m.row == k.row && m.column == k.column

differ_by : (a k : Place) (t : Bool) → (a.row == k.row) ≡ t → IsBehind a k → (t && a.column == k.column) ≡ false
differ_by a k true e f = ne_eqb a.column k.column (λ z. omega (arith, z, f.columns (eqb-true a.row k.row e)))
differ_by a k false e f = refl

differ : (a k : Place) → IsBehind a k → stands k a ≡ false
differ a k f = differ_by a k (a.row == k.row) refl f

stands_itself : (a : Place) → stands a a ≡ true
stands_itself a = ap (λ t. t && a.column == a.column) (eq-eqb a.row a.row refl) ∙ eq-eqb a.column a.column refl

head_found : (a k : Place) (t : Bool) (o p : Option Place) → (o ≡ Some k → (stands k a ≡ false) × (p ≡ Some k)) → cond t (Some a) o ≡ Some k → cond (stands k a) (Some a) p ≡ Some k
head_found a k true o p h e =
    let same : a ≡ k = cc e in
    subst (λ (m : Place). cond (stands m a) (Some a) p ≡ Some m) same (ap (λ t. cond t (Some a) p) (stands_itself a))
head_found a k false o p h e = let f = h e in ap (λ t. cond t (Some a) p) f.0 ∙ f.1

point_found : (o : ℕ) (a : Place) (bs : List ℕ) (k : Place) → find (λ (m : Place). m.offset == o) (walk a bs) ≡ Some k → find (stands k) (walk a bs) ≡ Some k
point_found o a [] k e = head_found a k (a.offset == o) None None (λ z. absurd (cc z)) e
point_found o a (b ∷ bs) k e =
    let next : Place = place_after a b in
    let at : Place → Bool = λ m. m.offset == o in
    (elim (begins_char b) as (λ (t : Bool). find at (cond t (a ∷ walk next bs) (walk next bs)) ≡ Some k → find (stands k) (cond t (a ∷ walk next bs) (walk next bs)) ≡ Some k) [
      | true ↦ head_found a k (a.offset == o) (find at (walk next bs)) (find (stands k) (walk next bs))
          (λ f. (differ a k (behind_after a k b (found_from at next bs k f)), point_found o next bs k f))
      | false ↦ point_found o next bs k
    ]) e

pub place_at_its_point : (bs : List ℕ) (o : ℕ) (k : Place) → place_at_offset bs o ≡ Some k → place_at_point bs (point_of k) ≡ Some k
place_at_its_point bs o k e =
    subst (λ (ks : List Place). find (λ (m : Place). m.offset == o) ks ≡ Some k → find (stands k) ks ≡ Some k) (sym (places-walk bs)) (point_found o (end_place []) bs k) e
