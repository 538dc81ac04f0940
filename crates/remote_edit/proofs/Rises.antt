-- The walk keeps the ids in order.
use Rattle.std.proofs.Common.{◌≡◌, ℕ, zero, suc, ◌+◌, ◌-◌, Option, List, [], ◌∷◌, ◌++◌, length, refl, sym, ap, ◌∙◌, arith, subst, Some, None, inl, inr, leb, not, ◌&&◌}
use Rattle.std.proofs.lemmas.Bool.{cases_Bool}
use Rattle.lamport_clock.specs.declared.stamp.Lamport.{Lamport}
use Rattle.lamport_clock.specs.Stamps.{later}
use Rattle.lamport_clock.specs.Versions.{Entries, sees}
use Rattle.locators.specs.Locator.{between_digits, least_digits, greatest_digits, IsLess, EndsAboveZero}
use Rattle.locators.proofs.Between.{above, below}
use Rattle.undo_map.specs.declared.entry.UndoEntry.{UndoEntry}
use Rattle.op_model.specs.declared.operation.Piece.{Piece}
use Rattle.fragments.specs.declared.fragment.Fragment.{Fragment}
use Rattle.fragments.specs.Stand.{Rise}
use Rattle.fragments.proofs.Rises.{from_low, rises_same, moved_on}
use Rattle.remote_edit.specs.Marks.{touch}
use Rattle.remote_edit.specs.Walk.{last_id, next_id, front, back, new_fragment, Zip, advance, skip_later, put_new, changes, walk}
use Rattle.remote_edit.proofs.Places.{touch_id}

last_from : (pre : List Fragment) → last_id pre ≡ from_low least_digits pre
unfolding from_low
last_from [] = refl
last_from (f ∷ fs) = go f fs
  where
    go : (f : Fragment) (fs : List Fragment) → last_id (f ∷ fs) ≡ from_low f.id fs
    go f [] = refl
    go f (g ∷ fs) = go g fs

-- one more id between two
rises_new : (low : List ℕ) (pre r : List Fragment) (g : Fragment) → Rise low (pre ++ r) → g.id ≡ between_digits (from_low low pre) (next_id r) → Rise low (pre ++ g ∷ r)
unfolding from_low
rises_new low [] [] g h e = let k = above low greatest_digits in subst (λ (i : List ℕ). IsLess low i × EndsAboveZero i × IsLess i greatest_digits) (sym e) (k.0, k.1, below low greatest_digits h (omega arith))
rises_new low [] (f ∷ r) g h e = let k = above low f.id in subst (λ (i : List ℕ). IsLess low i × EndsAboveZero i × (IsLess i f.id × EndsAboveZero f.id × Rise f.id r)) (sym e) (k.0, k.1, (below low f.id h.0 h.1, h.1, h.2))
rises_new low (x ∷ pre) r g h e = (h.0, h.1, rises_new x.id pre r g h.2 e)

abbrev Rises : Zip → Type 0
Rises z = Rise least_digits (z.pre ++ z.rest)

adv_rises : (m : Option (List UndoEntry)) (t : Lamport) (v : Entries) (n : ℕ) (pre rest : List Fragment) → Rise least_digits (pre ++ rest) → Rises (advance m t v n pre rest)
adv_rises m t v zero pre [] h = h
adv_rises m t v (suc n) pre [] h = h
adv_rises m t v zero pre (f ∷ fs) h = h
adv_rises m t v (suc n) pre (f ∷ fs) h = elim (cases_Bool (sees v f.stamp)) [
  | inr s ↦ rw s (adv_rises m t v (suc n) (pre ++ f ∷ []) fs (moved_on pre fs f h))
  | inl s ↦ elim (cases_Bool (leb f.len (suc n))) [
    | inl l ↦ rw (s, l) (adv_rises m t v (suc n - f.len) (pre ++ touch m t v f ∷ []) fs (moved_on pre fs (touch m t v f) (rises_same least_digits pre fs f (touch m t v f) h (touch_id m t v f))))
    | inr l ↦ (let a : Fragment = front f (suc n) (between_digits (last_id pre) f.id) in
        let b : Fragment = back f (suc n) in
        let x = rises_same least_digits pre fs f b h refl in
        let y = rises_new least_digits pre (b ∷ fs) (touch m t v a) x (touch_id m t v a ∙ ap (λ (i : List ℕ). between_digits i f.id) (last_from pre)) in
        rw (s, l) (moved_on pre (b ∷ fs) (touch m t v a) y))
  ]
]

skip_rises : (t : Lamport) (v : Entries) (pre rest : List Fragment) → Rise least_digits (pre ++ rest) → Rises (skip_later t v pre rest)
skip_rises t v pre [] h = h
skip_rises t v pre (f ∷ fs) h = elim (cases_Bool (later f.stamp t && not (sees v f.stamp))) [
  | inl s ↦ rw s (skip_rises t v (pre ++ f ∷ []) fs (moved_on pre fs f h))
  | inr s ↦ rw s h
]

put_rises : (t : Lamport) (k n : ℕ) (pre rest : List Fragment) → Rise least_digits (pre ++ rest) → Rises (put_new t k n pre rest)
put_rises t k zero pre rest h = h
put_rises t k (suc n) pre rest h =
    let g : Fragment = new_fragment t k (suc n) (between_digits (last_id pre) (next_id rest)) in
    moved_on pre rest g (rises_new least_digits pre rest g h (ap (λ (i : List ℕ). between_digits i (next_id rest)) (last_from pre)))

pub walk_rises : (w : List UndoEntry) (t : Lamport) (v : Entries) (at k : ℕ) (ps : List Piece) (pre rest : List Fragment) → Rise least_digits (pre ++ rest) → Rise least_digits (walk w t v at k ps pre rest)
walk_rises w t v at k [] pre rest h = h
walk_rises w t v at k (p ∷ ps) pre rest h = elim (cases_Bool (changes p)) [
  | inr e ↦ rw e (walk_rises w t v at k ps pre rest h)
  | inl e ↦ (let a : Zip = advance None t v (p.start - at) pre rest in
      let b : Zip = skip_later t v a.pre a.rest in
      let c : Zip = put_new t k (length p.text) b.pre b.rest in
      let d : Zip = advance (Some w) t v (p.end - p.start) c.pre c.rest in
      let ha = adv_rises None t v (p.start - at) pre rest h in
      let hb = skip_rises t v a.pre a.rest ha in
      let hc = put_rises t k (length p.text) b.pre b.rest hb in
      let hd = adv_rises (Some w) t v (p.end - p.start) c.pre c.rest hc in
      rw e (walk_rises w t v p.end (k + length p.text) ps d.pre d.rest hd))
]
