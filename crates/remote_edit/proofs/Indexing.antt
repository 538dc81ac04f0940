-- An index has the entries of fragments that are split and inserted.
use Rattle.std.proofs.lemmas.Option.{same_Some}
use Rattle.op_model.proofs.Elements.{each_left, each_right, each_map, each_append, pairs_in, pairs_out}
use Rattle.std.proofs.Common.{◌≡◌, ◌↔◌, ℕ, ◌+◌, ◌-◌, ◌<◌, ◌^◌, List, [], ◌∷◌, ◌++◌, map, refl, sym, ap, ◌∙◌, arith, subst, inl, inr, Some, append_assoc}
use Rattle.std.specs.List.{AllByRecursion}
use Rattle.std.proofs.lemmas.Bool.{cases_lt}
use Rattle.lamport_clock.specs.declared.stamp.Lamport.{Lamport}
use Rattle.locators.specs.Locator.{IsLess}
use Rattle.op_model.specs.Sorted.{EachPair, Member}
use Rattle.fragments.specs.declared.fragment.Fragment.{Fragment}
use Rattle.fragments.specs.declared.index_entry.IndexEntry.{IndexEntry}
use Rattle.fragments.specs.declared.index_entry.IndexKey.{IndexKey}
use Rattle.fragments.specs.Index.{key_of, IsAscending, with_entry, id_for}
use Rattle.fragments.specs.Stand.{IsFilled, Rise, entry_of, IsIndexOf}
use Rattle.fragments.proofs.Entries.{entry_takes_its_place}
use Rattle.fragments.proofs.Indexes.{mid_entry, with_one_more, same_entries}
use Rattle.fragments.proofs.Rises.{less_self, rise_above}
use Rattle.remote_edit.specs.Walk.{front, back, new_fragment}
use Rattle.remote_edit.specs.Indexes.{IsApart, EndsBefore, AreEntered}

-- ---- keys

abbrev OtherKey : IndexEntry → Fragment → Type 0
OtherKey x g = key_of (entry_of g) ≡ key_of x → ⊥

other_keys : (x e : IndexEntry) (fs : List Fragment) → AllByRecursion (OtherKey x) fs → Member e (map entry_of fs) → key_of e ≡ key_of x → ⊥
other_keys x e [] h m = absurd m
other_keys x e (g ∷ fs) h (inl q) = λ k. h.0 (ap key_of (sym q) ∙ k)
other_keys x e (g ∷ fs) h (inr m) = other_keys x e fs h.1 m

apart_key : (f g : Fragment) → IsFilled f → IsFilled g → IsApart f g → key_of (entry_of f) ≡ key_of (entry_of g) → ⊥
apart_key f g h k d e =
    let s : f.stamp ≡ g.stamp = ap (λ (i : IndexKey). i.stamp) e in
    let o : f.offset ≡ g.offset = ap (λ (i : IndexKey). i.offset.0) e in
    let f0 = h.0 in
    let g0 = k.0 in
    elim (d s) [ inl l ↦ absurd (omega arith) | inr l ↦ absurd (omega arith) ]

apart_back : (f g : Fragment) → IsApart f g → IsApart g f
apart_back f g d = λ e. elim (d (sym e)) [ inl l ↦ inr l | inr l ↦ inl l ]

-- one more entry, of a key that no other fragment has
entry_in : (pre r : List Fragment) (a : Fragment) (w : List IndexEntry) → IsAscending w → IsIndexOf (pre ++ r) w → AllByRecursion (OtherKey (entry_of a)) (pre ++ r) → IsIndexOf (pre ++ a ∷ r) (with_entry (entry_of a) w)
entry_in pre r a w s i o e = (to, from)
  where
    to : Member e (with_entry (entry_of a) w) → Member e (map entry_of (pre ++ a ∷ r))
    to m = (mid_entry e pre r a).1 (elim ((with_one_more e a w s).0 m) [ inl q ↦ inl q | inr k ↦ inr ((i e).0 k.0) ])

    from : Member e (map entry_of (pre ++ a ∷ r)) → Member e (with_entry (entry_of a) w)
    from m = (with_one_more e a w s).1 (elim ((mid_entry e pre r a).0 m) [ inl q ↦ inl q | inr n ↦ inr ((i e).1 n, other_keys (entry_of a) e (pre ++ r) o n) ])

-- an entry replaces that of a fragment with its key
entry_for_entry : (pre r : List Fragment) (f a : Fragment) (w : List IndexEntry) → IsAscending w → key_of (entry_of a) ≡ key_of (entry_of f) → IsIndexOf (pre ++ f ∷ r) w → AllByRecursion (OtherKey (entry_of a)) (pre ++ r)
    → IsIndexOf (pre ++ a ∷ r) (with_entry (entry_of a) w)
entry_for_entry pre r f a w s same i o e = (to, from)
  where
    kept : Member e w → (key_of e ≡ key_of (entry_of a) → ⊥) → Member e (map entry_of (pre ++ r))
    kept m d = elim ((mid_entry e pre r f).0 ((i e).0 m)) [ inl q ↦ absurd (d (ap key_of q ∙ sym same)) | inr n ↦ n ]

    to : Member e (with_entry (entry_of a) w) → Member e (map entry_of (pre ++ a ∷ r))
    to m = (mid_entry e pre r a).1 (elim ((with_one_more e a w s).0 m) [ inl q ↦ inl q | inr k ↦ inr (kept k.0 k.1) ])

    from : Member e (map entry_of (pre ++ a ∷ r)) → Member e (with_entry (entry_of a) w)
    from m = (with_one_more e a w s).1 (elim ((mid_entry e pre r a).0 m) [ inl q ↦ inl q | inr n ↦ inr ((i e).1 ((mid_entry e pre r f).1 (inr n)), other_keys (entry_of a) e (pre ++ r) o n) ])

-- ---- steps

-- another fragment's cells are among those of one
swap_apart : (t : Lamport) (k : ℕ) (pre r : List Fragment) (f g : Fragment) → ((x : Fragment) → IsApart x f → IsApart x g) → (EndsBefore t k f → EndsBefore t k g)
    → EachPair IsApart (pre ++ f ∷ r) → AllByRecursion (EndsBefore t k) (pre ++ f ∷ r) → EachPair IsApart (pre ++ g ∷ r) × AllByRecursion (EndsBefore t k) (pre ++ g ∷ r)
swap_apart t k pre r f g s l d b =
    let o = pairs_out IsApart pre r f d in
    let c = each_right (EndsBefore t k) pre (f ∷ r) b in (
      pairs_in IsApart pre r g o.0 (each_map (λ x. IsApart x f) (λ x. IsApart x g) s pre o.1) (each_map (IsApart f) (IsApart g) (λ x h. apart_back x g (s x (apart_back f x h))) r o.2),
      each_append (EndsBefore t k) pre (g ∷ r) (each_left (EndsBefore t k) pre (f ∷ r) b) (l c.0, c.1),
    )

-- a fragment with the entry and the cells of one
pub indexed_same : (t : Lamport) (k : ℕ) (pre r : List Fragment) (f g : Fragment) (w : List IndexEntry) → entry_of g ≡ entry_of f → g.len ≡ f.len → AreEntered t k (pre ++ f ∷ r) w → AreEntered t k (pre ++ g ∷ r) w
indexed_same t k pre r f g w e l h =
    let s : g.stamp ≡ f.stamp = ap (λ (z : IndexEntry). z.stamp) e in
    let o : g.offset ≡ f.offset = ap (λ (z : IndexEntry). z.offset) e in
    let z = swap_apart t k pre r f g (λ x d q. elim (d (q ∙ s)) [ inl m ↦ inl (omega arith) | inr m ↦ inr (omega arith) ]) (λ b q. let m = b (sym s ∙ q) in omega arith) h.apart h.before in
    record {
      ascending = h.ascending;
      entries = λ x. subst (λ (es : List IndexEntry). Member x w ↔ Member x es) (sym (same_entries pre r f g e)) (h.entries x);
      apart = z.0;
      before = z.1;
    }

-- keys of fragments apart from a
all_other : (fs : List Fragment) (a : Fragment) → IsFilled a → AllByRecursion IsFilled fs → AllByRecursion (λ x. IsApart x a) fs → AllByRecursion (OtherKey (entry_of a)) fs
all_other [] a h k d = tt
all_other (x ∷ fs) a h k d = (apart_key x a k.0 h d.0, all_other fs a h k.1 d.1)

both_sides : (pre r : List Fragment) (a : Fragment) → AllByRecursion (λ x. IsApart x a) pre → AllByRecursion (IsApart a) r → AllByRecursion (λ x. IsApart x a) (pre ++ r)
both_sides pre r a h k = each_append (λ x. IsApart x a) pre r h (each_map (IsApart a) (λ x. IsApart x a) (λ x d. apart_back a x d) r k)

-- the front has the key of the whole
pub indexed_front : (t : Lamport) (k : ℕ) (pre r : List Fragment) (f : Fragment) (n : ℕ) (id : List ℕ) (w : List IndexEntry) → AllByRecursion IsFilled (pre ++ f ∷ r) → 0 < n → n < f.len
    → AreEntered t k (pre ++ f ∷ r) w → AreEntered t k (pre ++ front f n id ∷ r) (with_entry (entry_of (front f n id)) w)
indexed_front t k pre r f n id w fl h l x =
    let a : Fragment = front f n id in
    let z = swap_apart t k pre r f a (λ y d q. elim (d q) [ inl m ↦ inl m | inr m ↦ inr (omega arith) ]) (λ b q. let m = b q in omega arith) x.apart x.before in
    let o = pairs_out IsApart pre r a z.0 in
    let g = each_right IsFilled pre (f ∷ r) fl in
    let g0 = g.0.1 in
    let fa : IsFilled a = (h, omega arith) in
    record {
      ascending = (entry_takes_its_place (entry_of a) w x.ascending).0;
      entries = entry_for_entry pre r f a w x.ascending refl x.entries (all_other (pre ++ r) a fa (each_append IsFilled pre r (each_left IsFilled pre (f ∷ r) fl) g.1) (both_sides pre r a o.1 o.2));
      apart = z.0;
      before = z.1;
    }

-- a fragment with other cells is inserted
pub indexed_in : (t : Lamport) (k : ℕ) (pre r : List Fragment) (a : Fragment) (w : List IndexEntry) → IsFilled a → AllByRecursion IsFilled (pre ++ r)
    → AllByRecursion (λ x. IsApart x a) (pre ++ r) → EndsBefore t k a → AreEntered t k (pre ++ r) w → AreEntered t k (pre ++ a ∷ r) (with_entry (entry_of a) w)
indexed_in t k pre r a w fa fl d b x = record {
  ascending = (entry_takes_its_place (entry_of a) w x.ascending).0;
  entries = entry_in pre r a w x.ascending x.entries (all_other (pre ++ r) a fa fl d);
  apart = pairs_in IsApart pre r a x.apart (each_left (λ y. IsApart y a) pre r d) (each_map (λ y. IsApart y a) (IsApart a) (λ y e. apart_back y a e) r (each_right (λ y. IsApart y a) pre r d));
  before = each_append (EndsBefore t k) pre (a ∷ r) (each_left (EndsBefore t k) pre r x.before) (b, each_right (EndsBefore t k) pre r x.before);
}

-- a fragment is split: the front has its key, and the back its id
pub indexed_split : (t : Lamport) (k : ℕ) (pre r : List Fragment) (f : Fragment) (n : ℕ) (id : List ℕ) (w : List IndexEntry) → AllByRecursion IsFilled (pre ++ f ∷ r) → 0 < n → n < f.len
    → AreEntered t k (pre ++ f ∷ r) w → AreEntered t k (pre ++ front f n id ∷ back f n ∷ r) (with_entry (entry_of (back f n)) (with_entry (entry_of (front f n id)) w))
indexed_split t k pre r f n id w fl h l x =
    let a : Fragment = front f n id in
    let b : Fragment = back f n in
    let w1 : List IndexEntry = with_entry (entry_of a) w in
    let x1 = indexed_front t k pre r f n id w fl h l x in
    let o = pairs_out IsApart pre r f x.apart in
    let g = each_right IsFilled pre (f ∷ r) fl in
    let g1 = g.0.1 in
    let fa : IsFilled a = (h, omega arith) in
    let fb : IsFilled b = ((omega arith), (omega arith)) in
    let q : (pre ++ a ∷ []) ++ r ≡ pre ++ a ∷ r = append_assoc pre (a ∷ []) r in
    let apart : (y : Fragment) → IsApart y f → IsApart y b = λ y d e. elim (d e) [ inl m ↦ inl (omega arith) | inr m ↦ inr (omega arith) ] in
    let ab : IsApart a b = λ e. inl (omega arith) in
    let d : AllByRecursion (λ y. IsApart y b) (pre ++ a ∷ r) = each_append (λ y. IsApart y b) pre (a ∷ r) (each_map (λ y. IsApart y f) (λ y. IsApart y b) apart pre o.1)
    (ab, each_map (IsApart f) (λ y. IsApart y b) (λ y m. apart y (apart_back f y m)) r o.2) in
    let e : EndsBefore t k b = λ i. let m = (each_right (EndsBefore t k) pre (f ∷ r) x.before).0 i in omega arith in
    let filled : AllByRecursion IsFilled (pre ++ a ∷ r) = each_append IsFilled pre (a ∷ r) (each_left IsFilled pre (f ∷ r) fl) (fa, g.1) in
    let z = indexed_in t k (pre ++ a ∷ []) r b w1 fb (subst (AllByRecursion IsFilled) (sym q) filled) (subst (AllByRecursion (λ y. IsApart y b)) (sym q) d) e
    (subst (λ (fs : List Fragment). AreEntered t k fs w1) (sym q) x1) in
    subst (λ (fs : List Fragment). AreEntered t k fs (with_entry (entry_of b) w1)) (append_assoc pre (a ∷ []) (b ∷ r)) z

-- new cells are inserted
pub indexed_new : (t : Lamport) (k n : ℕ) (pre r : List Fragment) (id : List ℕ) (w : List IndexEntry) → AllByRecursion IsFilled (pre ++ r) → 0 < n → k + n < 2 ^ 64
    → AreEntered t k (pre ++ r) w → AreEntered t (k + n) (pre ++ new_fragment t k n id ∷ r) (with_entry (entry_of (new_fragment t k n id)) w)
indexed_new t k n pre r id w fl h l x =
    let a : Fragment = new_fragment t k n id in
    let x1 : AreEntered t (k + n) (pre ++ r) w = record { ascending = x.ascending; entries = x.entries; apart = x.apart; before = each_map (EndsBefore t k) (EndsBefore t (k + n)) (λ y b q. let m = b q in omega arith) (pre ++ r) x.before } in
    indexed_in t (k + n) pre r a w (h, l) fl (each_map (EndsBefore t k) (λ y. IsApart y a) (λ y b q. inl (b q)) (pre ++ r) x.before) (λ q. omega arith) x1

-- fragments with different ids of which an index finds each cell
pub apart_start : (low : List ℕ) (fs : List Fragment) (w : List IndexEntry) → Rise low fs → AllByRecursion IsFilled fs → ((f : Fragment) → Member f fs → (j : ℕ) → j < f.len → id_for f.stamp (f.offset + j) w ≡ Some f.id) → EachPair IsApart fs
apart_start low [] w h fl d = tt
apart_start low (f ∷ fs) w h fl d = (all fs (λ g m. m) fl.1, apart_start f.id fs w h.2 fl.1 (λ g m. d g (inr m)))
  where
    one : (g : Fragment) → Member g fs → 0 < g.len → IsApart f g
    one g m k s = elim (cases_lt g.offset (f.offset + f.len)) [
      | inr l ↦ inl l
      | inl l ↦ elim (cases_lt f.offset (g.offset + g.len)) [
        | inr n ↦ inr n
        | inl n ↦ absurd (elim (cases_lt g.offset f.offset) [
          | inr o ↦ meet g m s g.offset (g.offset - f.offset) 0 (omega arith) (omega arith) (omega arith) k
          | inl o ↦ meet g m s f.offset 0 (f.offset - g.offset) (omega arith) (omega arith) (let z = fl.0.0 in omega arith) (omega arith)
        ])
      ]
    ]
      where
        meet : (g : Fragment) → Member g fs → f.stamp ≡ g.stamp → (c i j : ℕ) → f.offset + i ≡ c → g.offset + j ≡ c → i < f.len → j < g.len → ⊥
        meet g m s c i j a b p q =
            let x = d f (inl refl) i p in
            let y = d g (inr m) j q in
            let xc : id_for f.stamp c w ≡ Some f.id = ap (λ (n : ℕ). id_for f.stamp n w) (sym a) ∙ x in
            let yc : id_for f.stamp c w ≡ Some g.id = ap (λ (u : Lamport). id_for u c w) s ∙ ap (λ (n : ℕ). id_for g.stamp n w) (sym b) ∙ y in
            let e : f.id ≡ g.id = same_Some f.id g.id (sym xc ∙ yc) in
            less_self g.id (subst (λ (z : List ℕ). IsLess z g.id) e (rise_above f.id fs g h.2 m))

    all : (s : List Fragment) → ((g : Fragment) → Member g s → Member g fs) → AllByRecursion IsFilled s → AllByRecursion (IsApart f) s
    all [] i k = tt
    all (g ∷ s) i k = (one g (i g (inl refl)) k.0.0, all s (λ z m. i z (inr m)) k.1)
