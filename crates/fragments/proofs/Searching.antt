-- Where a seek for a key stops: at the entry with the greatest offset at most the key's, if the edit has one.
use Rattle.std.proofs.Common.{◌≡◌, ℕ, suc, ◌+◌, ◌<◌, ◌≤◌, ◌⊎◌, Bool, true, false, cond, List, [], ◌∷◌, length, get_or, slice_get, refl, sym, ap, ◌∙◌, inl, inr, Option, None, Some, arith, leb, nat_lt}
use Rattle.std.proofs.lemmas.Bool.{cases_Bool, cases_lt, and_from, and_left, and_parts, both_ways, le-leb, leb-true, le-ltb}
use Rattle.std.proofs.lemmas.Cmp.{alike_right}
use Rattle.std.specs.Ordering.{nat_cmp, ordering_then, ordering_reverse, is_lt, is_eq}
use Rattle.std.specs.declared.cmp.Ordering.{Ordering}
use Rattle.std.specs.declared.cmp.Ordering.TheVariants.{Less, Equal, Greater}
use Rattle.sum_tree.proofs.Keys.{less_of, ascending_rest}
use Rattle.tree_cursor.specs.Places.{seek_count}
use Rattle.tree_cursor.specs.Keys.{greater, key_less, key_passes, cmp_less, IsLess}
use Rattle.tree_cursor.specs.KeyLaws.{order_less}
use Rattle.tree_cursor.specs.declared.ready.Greatest.{Greatest}
use Rattle.tree_cursor.specs.declared.traits.Bias.TheVariants.{Left}
use Rattle.lamport_clock.specs.declared.stamp.Lamport.{Lamport}
use Rattle.lamport_clock.specs.Stamps.{same_stamp, stamp_cmp, stamp_order}
use Rattle.lamport_clock.proofs.Order.{is_eq-same, same_Equal, same_both_Equal, less_apart}
use Rattle.fragments.specs.declared.index_entry.IndexKey.{IndexKey}
use Rattle.fragments.specs.declared.index_entry.IndexEntry.{IndexEntry}
use Rattle.fragments.specs.Index.{key_of, key_cmp, key_order, IsAscending, first_from, covers, nearest, entry_for}
use Rattle.undo_map.proofs.Seeking.{key_less_next}
use Rattle.locators.proofs.Between.{nat_cmp-below, nat_cmp-Less}

abbrev pub less : IndexKey → IndexKey → Bool
less a b = cmp_less key_cmp a b

pub order : IsLess less
order = order_less key_cmp key_order

abbrev key_sum : IndexEntry → Greatest IndexKey
key_sum e = record { key = Some (key_of e) }

-- ---- the seek

abbrev pub move : Option IndexKey → Greatest IndexKey → Option (Option IndexKey)
move p s = Some (greater less p s.key)

step : (e : IndexEntry) (w : List IndexEntry) (n : ℕ) → slice_get (e ∷ w) (1 + n) ≡ slice_get w n
step e w n = ap (slice_get (e ∷ w)) (let q : 1 + n ≡ suc n = omega arith in q)

pub sought : (k : IndexKey) (p : Option IndexKey) (w : List IndexEntry) → key_less less p (Some k) ≡ true
    → slice_get w (seek_count move key_sum (λ q. key_passes less (Some k) q Left) p w) ≡ first_from k w
sought k p [] h = refl
sought k p (e ∷ w) h = elim (cases_Bool (less (key_of e) k)) [
  | inl l ↦ (let q = key_less_next less order p (key_of e) k h ∙ l in
      let next : Option IndexKey = greater less p (Some (key_of e)) in
      rw (q, l) (step e w (seek_count move key_sum (λ r. key_passes less (Some k) r Left) next w) ∙ sought k next w q))
  | inr l ↦ (let q = key_less_next less order p (key_of e) k h ∙ l in rw (q, l) refl)
]

-- ---- the entry of an edit

abbrev pub at : Lamport → ℕ → IndexKey
at t o = record { stamp = t; offset = record { 0 = o } }

-- of one edit, keys are compared by their offsets, the greatest first
pub same_edit : (a b : IndexKey) → same_stamp a.stamp b.stamp ≡ true → key_cmp a b ≡ nat_cmp b.offset.0 a.offset.0
same_edit a b s = ap (λ (c : Ordering). ordering_then c (nat_cmp b.offset.0 a.offset.0)) (same_Equal a.stamp b.stamp s)

-- an entry whose key is less than the cell's does not cover the cell
pub past_covers : (t : Lamport) (o : ℕ) (e : IndexEntry) → less (key_of e) (at t o) ≡ true → covers t o e ≡ false
past_covers t o e l = elim (cases_Bool (covers t o e)) [
  | inr f ↦ f
  | inl c ↦ (let k = and_parts (same_stamp e.stamp t) (leb e.offset o) c in
      let m : o < e.offset = nat_cmp-Less o e.offset (sym (same_edit (key_of e) (at t o) k.0) ∙ less_of _ l) in
      let n : e.offset ≤ o = leb-true _ _ k.1 in absurd (omega arith))
]

-- an entry of the edit whose key is not less does
up_to_covers : (t : Lamport) (o : ℕ) (e : IndexEntry) → less (key_of e) (at t o) ≡ false → same_stamp e.stamp t ≡ true → covers t o e ≡ true
up_to_covers t o e l s = elim (cases_lt o e.offset) [
  | inl m ↦ absurd (both_ways _ l (ap is_lt (same_edit (key_of e) (at t o) s ∙ nat_cmp-below o e.offset m)))
  | inr m ↦ and_from _ _ s (le-leb e.offset o m)
]

-- what comes after an entry
abbrev pub Behind : IndexEntry → List IndexEntry → Type 0
Behind x w = (j : ℕ) (d : IndexEntry) → j < length w → key_cmp (key_of x) (key_of (get_or w j d)) ≡ Less

pub behind_first : (x : IndexEntry) (w : List IndexEntry) → IsAscending (x ∷ w) → Behind x w
behind_first x w a = λ j d l. a 0 (suc j) d (omega arith) (omega arith)

behind_rest : (x y : IndexEntry) (w : List IndexEntry) → Behind x (y ∷ w) → Behind x w
behind_rest x y w a = λ j d l. a (suc j) d (omega arith)

-- no entry has a greater offset than x
abbrev pub NoneNearer : IndexEntry → Option IndexEntry → Type 0
NoneNearer x None = Unit {0}
NoneNearer x (Some y) = nat_lt x.offset y.offset ≡ false

pub nearest_first : (x : IndexEntry) (o : Option IndexEntry) → NoneNearer x o → nearest x o ≡ x
nearest_first x None h = refl
nearest_first x (Some y) h = rw h refl

nearer : (x y : IndexEntry) (o : Option IndexEntry) → nat_lt x.offset y.offset ≡ false → NoneNearer x o → nat_lt x.offset (nearest y o).offset ≡ false
nearer x y None l h = l
nearer x y (Some z) l h = elim (cases_Bool (nat_lt y.offset z.offset)) [ inl e ↦ rw e h | inr e ↦ rw e l ]

pub not_below : (a b : ℕ) → b < a → nat_lt a b ≡ false
not_below a b l = le-ltb a b (omega arith)

-- of the entries of an edit after one of its entries, none has a greater offset
pub none_nearer : (t : Lamport) (o : ℕ) (x : IndexEntry) (w : List IndexEntry) → same_stamp x.stamp t ≡ true → Behind x w → NoneNearer x (entry_for t o w)
none_nearer t o x [] s b = tt
none_nearer t o x (y ∷ w) s b = elim (cases_Bool (covers t o y)) [
  | inr c ↦ rw c (none_nearer t o x w s (behind_rest x y w b))
  | inl c ↦ (let k = and_parts (same_stamp y.stamp t) (leb y.offset o) c in
      let e : key_cmp (key_of x) (key_of y) ≡ nat_cmp y.offset x.offset = ap (λ (z : Ordering). ordering_then z (nat_cmp y.offset x.offset)) (same_both_Equal x.stamp t y.stamp s k.0) in
      let l = not_below x.offset y.offset (nat_cmp-Less y.offset x.offset (sym e ∙ b 0 y (omega arith))) in
      rw c (nearer x y (entry_for t o w) l (none_nearer t o x w s (behind_rest x y w b))))
]

-- a later edit's entry comes after all entries of the edit
pub then_less : (a b : Ordering) → ordering_then a b ≡ Less → (a ≡ Less) ⊎ (a ≡ Equal)
then_less Less b h = inl refl
then_less Equal b h = inr refl
then_less Greater b h = cc

pub later_of : (a b : Ordering) → is_lt (ordering_then a b) ≡ false → is_eq a ≡ false → a ≡ Greater
later_of Less b h e = cc
later_of Equal b h e = cc
later_of Greater b h e = refl

none_behind : (t : Lamport) (o : ℕ) (x : IndexEntry) (w : List IndexEntry) → stamp_cmp t x.stamp ≡ Less → Behind x w → entry_for t o w ≡ None
none_behind t o x [] s b = refl
none_behind t o x (y ∷ w) s b =
    let after : stamp_cmp t y.stamp ≡ Less = elim (then_less _ _ (b 0 y (omega arith))) [
      | inl l ↦ stamp_order.trans t x.stamp y.stamp s l
      | inr e ↦ sym (alike_right stamp_order x.stamp y.stamp t e) ∙ s
    ] in
    rw (and_left (same_stamp y.stamp t) (leb y.offset o) (less_apart t y.stamp after)) (none_behind t o x w s (behind_rest x y w b))

-- an entry, if it is of the edit
abbrev pub of_edit : Lamport → Option IndexEntry → Option IndexEntry
of_edit t None = None
of_edit t (Some e) = cond (same_stamp e.stamp t) (Some e) None

pub front_entry : (t : Lamport) (o : ℕ) (w : List IndexEntry) → IsAscending w → of_edit t (first_from (at t o) w) ≡ entry_for t o w
front_entry t o [] a = refl
front_entry t o (x ∷ w) a = elim (cases_Bool (less (key_of x) (at t o))) [
  | inl l ↦ (let c = past_covers t o x l in rw (l, c) (front_entry t o w (ascending_rest key_cmp key_of x w a)))
  | inr l ↦ elim (cases_Bool (same_stamp x.stamp t)) [
    | inl s ↦ (let c = up_to_covers t o x l s in
        let n = nearest_first x (entry_for t o w) (none_nearer t o x w s (behind_first x w a)) in
        rw (l, c, s) (ap (λ (z : IndexEntry). Some z) (sym n)))
    | inr s ↦ (let g : stamp_cmp x.stamp t ≡ Greater = later_of (stamp_cmp x.stamp t) (nat_cmp o x.offset) l (is_eq-same x.stamp t ∙ s) in
        let c = and_left (same_stamp x.stamp t) (leb x.offset o) s in
        let n = none_behind t o x w (stamp_order.antisymm t x.stamp ∙ ap ordering_reverse g) (behind_first x w a) in
        rw (l, c, s) (sym n))
  ]
]

-- ---- what is found

of_same : (t : Lamport) (e : IndexEntry) → same_stamp e.stamp t ≡ true → of_edit t (Some e) ≡ Some e
of_same t e s = rw s refl

of_other : (t : Lamport) (e : IndexEntry) → same_stamp e.stamp t ≡ false → of_edit t (Some e) ≡ None
of_other t e s = rw s refl

found : (t : Lamport) (o : ℕ) (w : List IndexEntry) (r found : Option IndexEntry) → IsAscending w → r ≡ first_from (at t o) w → of_edit t r ≡ found → found ≡ entry_for t o w
found t o w r f a h e = sym e ∙ ap (of_edit t) h ∙ front_entry t o w a

-- an entry of the edit, another edit's, and none
pub front_same : (t : Lamport) (o : ℕ) (w : List IndexEntry) (e : IndexEntry) → IsAscending w → Some e ≡ first_from (at t o) w → same_stamp e.stamp t ≡ true → Some e ≡ entry_for t o w
front_same t o w e a h s = found t o w (Some e) (Some e) a h (of_same t e s)

pub front_other : (t : Lamport) (o : ℕ) (w : List IndexEntry) (e : IndexEntry) → IsAscending w → Some e ≡ first_from (at t o) w → same_stamp e.stamp t ≡ false → None ≡ entry_for t o w
front_other t o w e a h s = found t o w (Some e) None a h (of_other t e s)

pub front_none : (t : Lamport) (o : ℕ) (w : List IndexEntry) → IsAscending w → None ≡ first_from (at t o) w → None ≡ entry_for t o w
front_none t o w a h = found t o w None None a h refl
