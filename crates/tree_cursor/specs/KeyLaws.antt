-- What places that are the greatest of keys keep.
use Rattle.std.specs.Prelude.{◌≡◌, ℕ, nat_lt, Bool, true, false, not, cond, Option, Some, None, refl}
use Rattle.std.specs.Cmp.{IsTotalOrder}
use Rattle.std.specs.Ordering.{is_lt, ordering_reverse}
use Rattle.std.specs.declared.cmp.Ordering.{Ordering}
use Rattle.std.specs.declared.cmp.Ordering.TheVariants.{Less, Equal, Greater}
use Rattle.std.proofs.Common.{sym, ap, ◌∙◌, arith}
use Rattle.std.proofs.lemmas.Bool.{not-true}
use Rattle.std.proofs.lemmas.Bool.Decides.{nat_tests}
use Rattle.sum_tree.proofs.Keys.{less_of}
use Rattle.tree_cursor.specs.Places.{DimensionLaws}
use Rattle.tree_cursor.specs.declared.traits.Bias.{Bias}
use Rattle.tree_cursor.specs.declared.traits.Bias.TheVariants.{Left, Right}
use Rattle.std.proofs.lemmas.Option.{same_Some}
use Rattle.tree_cursor.specs.Keys.{IsLess, greater, key_less, key_passes, IsLaterKey, cmp_less}

pub greater_none : {K : Type 0} (less : K → K → Bool) (o : Option K) → greater less o None ≡ o
greater_none less None = refl
greater_none less (Some a) = refl

module _ {K : Type 0} (less : K → K → Bool) (order : IsLess less) where
  greater_at : (a b c : K) (ab bc : Bool) → less a b ≡ ab → less b c ≡ bc → greater less (greater less (Some a) (Some b)) (Some c) ≡ greater less (Some a) (greater less (Some b) (Some c))
  greater_at a b c true true e f = let h = order.up a b c e f in rw (e, f, h) refl
  greater_at a b c true false e f = rw (e, f, e) refl
  greater_at a b c false true e f = rw (e, f) refl
  greater_at a b c false false e f = let h = order.down a b c e f in rw (e, f, e, h) refl

  pub greater_assoc : (p q r : Option K) → greater less (greater less p q) r ≡ greater less p (greater less q r)
  greater_assoc None q r = refl
  greater_assoc (Some a) None r = refl
  greater_assoc (Some a) (Some b) None = greater_none less (cond (less a b) (Some b) (Some a))
  greater_assoc (Some a) (Some b) (Some c) = greater_at a b c (less a b) (less b c) refl refl

  -- where a summary tells the greatest of its items' keys, the greatest so far is a place
  pub key_laws : {S : Type 0} (empty : S) (op : S → S → S) (admits single : S → Type 0) (key : S → Option K) → key empty ≡ None → ((a b : S) → admits a → admits b → key (op a b) ≡ greater less (key a) (key b)) → DimensionLaws {P = Option K} {S = S} empty op admits single (IsLaterKey less) (λ p s. Some (greater less p (key s))) (λ p s. Unit)
  key_laws empty op admits single key none sum = record {
    nothing = λ p q e. sym (same_Some _ _ e) ∙ ap (greater less p) none ∙ greater_none less p;
    parts = λ p q a b f g e. (greater less p (key a), refl, ap (λ (o : Option K). Some o) (greater_assoc p (key a) (key b) ∙ ap (greater less p) (sym (sum a b f g))) ∙ e);
    one = λ p a f s r. (greater less p (key a), refl);
    forward = λ p q a f e. (key a, sym (same_Some _ _ e));
    fits_front = λ p a b f g h. tt;
    fits_back = λ p r a b f g h e. tt;
  }

  some_after : (b : Bool) (x y : K) → key_less less None (cond b (Some x) (Some y)) ≡ true
  some_after true x y = refl
  some_after false x y = refl

  right_at : (g a r : K) (ar : Bool) → less a r ≡ ar → less g a ≡ true → key_less less (Some g) (greater less (Some a) (Some r)) ≡ true
  right_at g a r true e h = rw e (order.up g a r h e)
  right_at g a r false e h = rw e h

  right_stays : (g p r : Option K) → key_less less g p ≡ true → key_less less g (greater less p r) ≡ true
  right_stays g p None h = ap (key_less less g) (greater_none less p) ∙ h
  right_stays None None (Some r) h = refl
  right_stays (Some g) None (Some r) h = cc
  right_stays None (Some a) (Some r) h = some_after (less a r) r a
  right_stays (Some g) (Some a) (Some r) h = right_at g a r (less a r) refl h

  left_at : (g a r : K) (ar rg : Bool) → less a r ≡ ar → less r g ≡ rg → less a g ≡ false → key_less less (greater less (Some a) (Some r)) (Some g) ≡ false
  left_at g a r false rg e f h = rw e h
  left_at g a r true false e f h = rw e f
  left_at g a r true true e f h = let up = order.up a r g e f in cc

  none_after : (b : Bool) (x y : K) → key_less less (cond b (Some x) (Some y)) None ≡ false
  none_after true x y = refl
  none_after false x y = refl

  left_stays : (g p r : Option K) → key_less less p g ≡ false → key_less less (greater less p r) g ≡ false
  left_stays g p None h = ap (λ (o : Option K). key_less less o g) (greater_none less p) ∙ h
  left_stays None None (Some r) h = refl
  left_stays (Some g) None (Some r) h = cc
  left_stays None (Some a) (Some r) h = none_after (less a r) r a
  left_stays (Some g) (Some a) (Some r) h = left_at g a r (less a r) (less r g) refl refl h

  pub key_stays : (g p q : Option K) (b : Bias) → key_passes less g p b ≡ true → IsLaterKey less p q → key_passes less g q b ≡ true
  key_stays g p q Left h l =
      let before : key_less less p g ≡ false = not-true (key_less less p g) h in
      ap (λ (o : Option K). not (key_less less o g)) l.1 ∙ ap not (left_stays g p l.0 before)
  key_stays g p q Right h l = ap (key_less less g) l.1 ∙ right_stays g p l.0 h

not_lt : (o : Ordering) → (o ≡ Less → ⊥) → is_lt o ≡ false
not_lt Less h = absurd (h refl)
not_lt Equal h = refl
not_lt Greater h = refl

-- a key past the greatest so far is the greatest
pub greater_past : {K : Type 0} (cmp : K → K → Ordering) (o : Option K) (a b : K) → o ≡ Some a → cmp a b ≡ Less → greater (cmp_less cmp) o (Some b) ≡ Some b
greater_past cmp o a b e l = rw (e, l) refl

module _ {K : Type 0} (cmp : K → K → Ordering) (t : IsTotalOrder cmp) where
  down_at : (a b c : K) (o : Ordering) → cmp a b ≡ o → is_lt o ≡ false → is_lt (cmp b c) ≡ false → cmp a c ≡ Less → ⊥
  down_at a b c Less e h k m = cc
  down_at a b c Equal e h k m = let same = ap is_lt (sym (t.congr a b c e) ∙ m) in cc
  down_at a b c Greater e h k m = let less = ap is_lt (t.trans b a c (t.antisymm b a ∙ ap ordering_reverse e) m) in cc

  pub order_less : IsLess (cmp_less cmp)
  order_less = record {
    up = λ a b c h k. ap is_lt (t.trans a b c (less_of _ h) (less_of _ k));
    down = λ a b c h k. not_lt (cmp a c) (down_at a b c (cmp a b) refl h k);
  }

-- keys that are compared by a number
pub number_less : {X : Type 0} (f : X → ℕ) → IsLess (λ (a b : X). nat_lt (f a) (f b))
number_less f = record { up = λ a b c h k. grind (arith, nat_tests); down = λ a b c h k. grind (arith, nat_tests) }
