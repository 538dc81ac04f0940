-- How a walk goes over the parts of a list.
use Rattle.std.proofs.Common.{◌≡◌, ℕ, ◌+◌, ◌-◌, ◌≤◌, min, Bool, true, false, cond, Option, Some, None, List, [], ◌∷◌, ◌++◌, length, take, drop, ap, sym, subst, refl, ◌∙◌, arith, Bor, length-append}
use Rattle.std.proofs.lemmas.List.{length-drop, drop-drop, drop_at, take_at, take_all, append-nil}
use Rattle.std.proofs.Math.Seq.{take-add}
use Rattle.sum_tree.specs.Laws.{SummaryLaws, fold}
use Rattle.sum_tree.proofs.Folds.{fold-append, fold_single, fold_admitted}
use Rattle.tree_cursor.specs.Places.{DimensionLaws, behind, place_behind, walk_count, seek_count}
use Rattle.tree_cursor.specs.Halts.{IsAt, place_over, ahead, index_behind}
use Rattle.tree_cursor.specs.Walking.{IsWalking}
use Rattle.std.proofs.lemmas.Option.{same_Some}

pub place_behind-append : {P S T : Type 0} (moved : P → S → Option P) (sum_of : T → S) (p : P) (ys xs : List T) → place_behind moved sum_of p (ys ++ xs) ≡ place_behind moved sum_of (place_behind moved sum_of p ys) xs
place_behind-append moved sum_of p [] xs = refl
place_behind-append moved sum_of p (y ∷ ys) xs = place_behind-append moved sum_of (behind p (moved p (sum_of y))) ys xs

went_at : {P : Type 0} (b : Bool) (r q : P) (halts : P → Bool) → halts r ≡ b → cond b None (Some r) ≡ Some q → (Some r ≡ Some q) × (halts q ≡ false)
went_at true r q halts s e = cc
went_at false r q halts s e = (e, ap halts (sym (same_Some r q e)) ∙ s)

-- a sum that is gone over is added whole, and the walk does not halt there
pub went : {P : Type 0} (halts : P → Bool) (o : Option P) (q : P) → place_over halts o ≡ Some q → (o ≡ Some q) × (halts q ≡ false)
went halts None q e = cc
went halts (Some r) q e = went_at (halts r) r q halts refl e

module _ {P S T : Type 0} {moved : P → S → Option P} {fits : P → S → Type 0} {empty : S} {op : S → S → S} {admits single : S → Type 0} {later : P → P → Type 0} (dim : DimensionLaws empty op admits single later moved fits) {afits : S → Type 0} (laws : SummaryLaws empty op admits afits) (sum_of : T → S) (admitted : (x : T) → admits (sum_of x)) (is_single : (x : T) → single (sum_of x)) where
  -- what fits as a whole fits in two parts
  whole_fits : (p : P) (all ys xs : List T) → all ≡ ys ++ xs → fits p (fold empty op sum_of all) → fits p (op (fold empty op sum_of ys) (fold empty op sum_of xs))
  whole_fits p all ys xs e h = subst (fits p) (ap (fold empty op sum_of) e ∙ fold-append laws sum_of admitted ys xs) h

  fits_parts : (p : P) (all ys xs : List T) → all ≡ ys ++ xs → fits p (fold empty op sum_of all) → fits p (fold empty op sum_of ys)
  fits_parts p all ys xs e h = dim.fits_front p (fold empty op sum_of ys) (fold empty op sum_of xs) (fold_admitted laws sum_of admitted ys) (fold_admitted laws sum_of admitted xs) (whole_fits p all ys xs e h)

  -- a single item is added whole
  one_added : (p : P) (all xs : List T) (x : T) → all ≡ x ∷ xs → fits p (fold empty op sum_of all) → moved p (sum_of x) ≡ Some (behind p (moved p (sum_of x)))
  one_added p all xs x e h =
      let room : fits p (sum_of x) = subst (fits p) (fold_single laws sum_of admitted x) (fits_parts p all (x ∷ []) xs e h) in
      let added = dim.one p (sum_of x) (admitted x) (is_single x) room in
      added.1 ∙ ap (λ (q : P). Some q) (sym (ap (behind p) added.1))

  module _ (halts : S → P → ℕ → Bool) (parts : (a b : S) (p q : P) (i j : ℕ) → admits a → admits b → later p q → i ≤ j → halts (op a b) q j ≡ false → (halts a p i ≡ false) × (halts b q j ≡ false)) where
    stepped : (p r : P) (i n m : ℕ) (y : T) (zs : List T) → moved p (sum_of y) ≡ Some r → halts (sum_of y) r (i + 1) ≡ false → walk_count moved sum_of halts r (i + 1) zs ≡ n + m → walk_count moved sum_of halts p i (y ∷ zs) ≡ 1 + (n + m)
    stepped p r i n m y zs e h k =
        let d : behind p (moved p (sum_of y)) ≡ r = ap (behind p) e in
        ap (λ (q : P). cond (halts (sum_of y) q (i + 1)) 0 (1 + walk_count moved sum_of halts q (i + 1) zs)) d ∙ ap (λ (b : Bool). cond b 0 (1 + walk_count moved sum_of halts r (i + 1) zs)) h ∙ ap (λ (u : ℕ). 1 + u) k

    -- items that are gone over together are gone over one by one
    passes : (p q : P) (i j : ℕ) (ys xs : List T) → j ≡ i + length ys → moved p (fold empty op sum_of ys) ≡ Some q → halts (fold empty op sum_of ys) q j ≡ false → (place_behind moved sum_of p ys ≡ q) × (walk_count moved sum_of halts p i (ys ++ xs) ≡ length ys + walk_count moved sum_of halts q j xs)
    passes p q i j [] xs n m h =
        let same : q ≡ p = dim.nothing p q m in
        let here : i ≡ j = omega (arith, n) in
        (sym same, ap (λ (r : P). walk_count moved sum_of halts r i xs) (sym same) ∙ ap (λ (k : ℕ). walk_count moved sum_of halts q k xs) here ∙ omega arith)
    passes p q i j (y ∷ ys) xs n m h =
        let a = sum_of y in
        let b = fold empty op sum_of ys in
        let split : fold empty op sum_of (y ∷ ys) ≡ op a b = fold-append laws sum_of admitted (y ∷ []) ys ∙ ap (λ (s : S). op s b) (fold_single laws sum_of admitted y) in
        let fine : admits b = fold_admitted laws sum_of admitted ys in
        let part = dim.parts p q a b (admitted y) fine (ap (moved p) (sym split) ∙ m) in
        let r = part.0 in
        let on : later r q = dim.forward r q b fine part.2 in
        let less : i + 1 ≤ j = omega (arith, n) in
        let not : (halts a r (i + 1) ≡ false) × (halts b q j ≡ false) = parts a b r q (i + 1) j (admitted y) fine on less (ap (λ (s : S). halts s q j) (sym split) ∙ h) in
        let rest : (place_behind moved sum_of r ys ≡ q) × (walk_count moved sum_of halts r (i + 1) (ys ++ xs) ≡ length ys + walk_count moved sum_of halts q j xs) = passes r q (i + 1) j ys xs (omega (arith, n)) part.2 not.1 in (
          ap (λ (s : P). place_behind moved sum_of s ys) (ap (behind p) part.1) ∙ rest.0,
          stepped p r i (length ys) (walk_count moved sum_of halts q j xs) y (ys ++ xs) part.1 not.0 rest.1 ∙ omega arith,
        )

    module _ (whole : List T) (from : P) (goal : ℕ) where
      -- the walk goes over items that are left
      pub go_over : (left ys xs : List T) (at q : P) (s : S) (index j : ℕ) → IsWalking moved fits empty op sum_of halts whole from left at index goal → left ≡ ys ++ xs → s ≡ fold empty op sum_of ys → j ≡ index + length ys → moved at s ≡ Some q → halts s q j ≡ false → IsWalking moved fits empty op sum_of halts whole from xs q j goal
      go_over left ys xs at q s index j w e f n m h =
          let sums : moved at (fold empty op sum_of ys) ≡ Some q = ap (moved at) (sym f) ∙ m in
          let along = passes at q index j ys xs n sums (ap (λ (t : S). halts t q j) (sym f) ∙ h) in
          let parted : drop index whole ≡ ys ++ xs = sym w.left_is ∙ e in
          let many : length whole - index ≡ length ys + length xs = sym (length-drop index whole) ∙ ap length parted ∙ length-append ys xs in
          let behind_them : drop (length ys) (drop index whole) ≡ xs = ap (drop (length ys)) parted ∙ drop_at ys xs (length ys) refl in
          let them : take (length ys) (drop index whole) ≡ ys = ap (take (length ys)) parted ∙ take_at ys xs (length ys) refl in
          let front : take j whole ≡ take index whole ++ ys = ap (λ (k : ℕ). take k whole) n ∙ take-add index (length ys) whole ∙ ap (λ (zs : List T). take index whole ++ zs) them in
          record {
            within = omega (arith, many, w.within, n);
            left_is = sym (ap (λ (k : ℕ). drop k whole) n ∙ sym (drop-drop (length ys) index whole) ∙ behind_them);
            starts = sym (ap (place_behind moved sum_of from) front ∙ place_behind-append moved sum_of from (take index whole) ys ∙ ap (λ (p : P). place_behind moved sum_of p ys) (sym w.starts) ∙ along.0);
            room = dim.fits_back at q (fold empty op sum_of ys) (fold empty op sum_of xs) (fold_admitted laws sum_of admitted ys) (fold_admitted laws sum_of admitted xs) (whole_fits at left ys xs e w.room) sums;
            sought = omega (arith, n, along.1, w.sought, ap (walk_count moved sum_of halts at index) e);
          }

      pub room_for : (left ys xs : List T) (at : P) (s : S) (index : ℕ) → IsWalking moved fits empty op sum_of halts whole from left at index goal → left ≡ ys ++ xs → s ≡ fold empty op sum_of ys → fits at s
      room_for left ys xs at s index w e f = subst (fits at) (sym f) (fits_parts at left ys xs e w.room)

      pub room_for_one : (left xs : List T) (x : T) (at : P) (s : S) (index : ℕ) → IsWalking moved fits empty op sum_of halts whole from left at index goal → left ≡ x ∷ xs → s ≡ sum_of x → fits at s
      room_for_one left xs x at s index w e f = room_for left (x ∷ []) xs at s index w e (f ∙ sym (fold_single laws sum_of admitted x))

      pub go_over_one : (left xs : List T) (x : T) (at end : P) (s : S) (index : ℕ) → IsWalking moved fits empty op sum_of halts whole from left at index goal → left ≡ x ∷ xs → s ≡ sum_of x → end ≡ behind at (moved at s) → halts s end (index + 1) ≡ false → IsWalking moved fits empty op sum_of halts whole from xs end (index + 1) goal
      go_over_one left xs x at end s index w e f b h =
          let added : moved at s ≡ Some end = ap (moved at) f ∙ one_added at left xs x e w.room ∙ ap (λ (q : P). Some q) (sym (b ∙ ap (λ (t : S). behind at (moved at t)) f)) in
          go_over left (x ∷ []) xs at end s index (index + 1) w e (f ∙ sym (fold_single laws sum_of admitted x)) refl added h

      -- the walk halts at the first of the items that are left
      pub halts_here : (left xs : List T) (x : Bor T) (at end : P) (s : S) (index : ℕ) → IsWalking moved fits empty op sum_of halts whole from left at index goal → left ≡ x.now ∷ xs → s ≡ sum_of x.now → end ≡ behind at (moved at s) → halts s end (index + 1) ≡ true → (index ≡ goal) × IsAt moved fits empty op sum_of whole from xs (Some x) at end index
      halts_here left xs x at end s index w e f b h =
          let added : moved at s ≡ Some end = ap (moved at) f ∙ one_added at left xs x.now e w.room ∙ ap (λ (q : P). Some q) (sym (b ∙ ap (λ (t : S). behind at (moved at t)) f)) in
          let ended : behind at (moved at (sum_of x.now)) ≡ end = ap (λ (t : S). behind at (moved at t)) (sym f) ∙ sym b in
          let none : walk_count moved sum_of halts at index left ≡ 0 =
          ap (walk_count moved sum_of halts at index) e ∙ ap (λ (b : Bool). cond b 0 (1 + walk_count moved sum_of halts (behind at (moved at (sum_of x.now))) (index + 1) xs)) (ap (λ (q : P). halts (sum_of x.now) q (index + 1)) ended ∙ ap (λ (t : S). halts t end (index + 1)) (sym f) ∙ h) in
          let parted : drop index whole ≡ x.now ∷ xs = sym w.left_is ∙ e in
          let them : take 1 (drop index whole) ≡ x.now ∷ [] = ap (take 1) parted in
          let front : take (index + 1) whole ≡ take index whole ++ (x.now ∷ []) = take-add index 1 whole ∙ ap (λ (zs : List T). take index whole ++ zs) them in
          let sums : moved at (fold empty op sum_of (x.now ∷ [])) ≡ Some end = ap (moved at) (fold_single laws sum_of admitted x.now ∙ sym f) ∙ added in (
            omega (arith, none, w.sought),
            record {
              within = w.within;
              here = sym parted;
              behind = sym (ap (drop 1) parted) ∙ drop-drop 1 index whole;
              starts = w.starts;
              ends = sym (ap (place_behind moved sum_of from) front ∙ place_behind-append moved sum_of from (take index whole) (x.now ∷ []) ∙ ap (λ (p : P). place_behind moved sum_of p (x.now ∷ [])) (sym w.starts) ∙ ended);
              room = dim.fits_back at end (fold empty op sum_of (x.now ∷ [])) (fold empty op sum_of xs) (fold_admitted laws sum_of admitted (x.now ∷ [])) (fold_admitted laws sum_of admitted xs) (whole_fits at left (x.now ∷ []) xs e w.room) sums;
            },
          )

      -- nothing is left
      pub halts_past : (left rest : List T) (at : P) (index : ℕ) → IsWalking moved fits empty op sum_of halts whole from left at index goal → left ≡ [] → rest ≡ [] → (index ≡ goal) × IsAt moved fits empty op sum_of whole from rest None at at index
      halts_past left rest at index w e r =
          let parted : drop index whole ≡ [] = sym w.left_is ∙ e in
          let none : walk_count moved sum_of halts at index left ≡ 0 = ap (walk_count moved sum_of halts at index) e in
          let front : take (index + 1) whole ≡ take index whole = take-add index 1 whole ∙ ap (λ (zs : List T). take index whole ++ take 1 zs) parted ∙ append-nil (take index whole) in (
            omega (arith, none, w.sought),
            record {
              within = w.within;
              here = sym parted;
              behind = r ∙ sym (ap (drop 1) parted) ∙ drop-drop 1 index whole;
              starts = w.starts;
              ends = w.starts ∙ ap (place_behind moved sum_of from) (sym front);
              room = subst (λ (zs : List T). fits at (fold empty op sum_of zs)) (e ∙ sym r) w.room;
            },
          )

module _ {P S T : Type 0} {moved : P → S → Option P} {fits : P → S → Type 0} {empty : S} {op : S → S → S} {sum_of : T → S} {whole : List T} {from : P} {rest : List T} {start end : P} {i : ℕ} where
  -- behind the item on which a walk stands
  pub behind_item : {item : Option (Bor T)} {x : Bor T} → IsAt moved fits empty op sum_of whole from rest item start end i → item ≡ Some x → (i + 1 + length rest ≡ length whole) × (rest ≡ drop (i + 1) whole) × (drop i whole ≡ x.now ∷ rest)
  behind_item {item} {x} o e =
      let here : x.now ∷ rest ≡ drop i whole = ap (λ (u : Option (Bor T)). ahead u rest) (sym e) ∙ o.here in
      let many : length (x.now ∷ rest) ≡ length whole - i = ap length here ∙ length-drop i whole in
      (omega (arith, many, o.within), ap (drop 1) here ∙ drop-drop 1 i whole, sym here)

-- a walk that begins at an index stands in the whole
module _ {P S T : Type 0} (moved : P → S → Option P) (fits : P → S → Type 0) (empty : S) (op : S → S → S) (sum_of : T → S) where
  places_add : (whole : List T) (from p : P) (i n : ℕ) → p ≡ place_behind moved sum_of from (take i whole) → place_behind moved sum_of p (take n (drop i whole)) ≡ place_behind moved sum_of from (take (i + n) whole)
  places_add whole from p i n e = ap (λ (q : P). place_behind moved sum_of q (take n (drop i whole))) e ∙ sym (place_behind-append moved sum_of from (take i whole) (take n (drop i whole))) ∙ ap (place_behind moved sum_of from) (sym (take-add i n whole))

  pub at_further : (whole all : List T) (from p : P) (i n : ℕ) (rest : List T) (item : Option (Bor T)) (start end : P) → i ≤ length whole → all ≡ drop i whole → p ≡ place_behind moved sum_of from (take i whole) → IsAt moved fits empty op sum_of all p rest item start end n → IsAt moved fits empty op sum_of whole from rest item start end (i + n)
  at_further whole all from p i n rest item start end l a e o =
      let within : n ≤ length whole - i = omega (arith, o.within, ap length a, length-drop i whole) in
      record {
        within = omega (arith, within, l);
        here = o.here ∙ ap (drop n) a ∙ drop-drop n i whole;
        behind = o.behind ∙ ap (drop (n + 1)) a ∙ drop-drop (n + 1) i whole ∙ ap (λ (k : ℕ). drop k whole) (omega arith);
        starts = o.starts ∙ ap (λ (zs : List T). place_behind moved sum_of p (take n zs)) a ∙ places_add whole from p i n e;
        ends = o.ends ∙ ap (λ (zs : List T). place_behind moved sum_of p (take (n + 1) zs)) a ∙ places_add whole from p i (n + 1) e ∙ ap (λ (k : ℕ). place_behind moved sum_of from (take k whole)) (omega arith);
        room = o.room;
      }

  -- the item ends behind its start
  end_is : (whole : List T) (from : P) (rest : List T) (item : Option (Bor T)) (x : Bor T) (start end : P) (i : ℕ) → IsAt moved fits empty op sum_of whole from rest item start end i → item ≡ Some x → end ≡ behind start (moved start (sum_of x.now))
  end_is whole from rest item x start end i o e =
      let b = behind_item o e in
      o.ends ∙ sym (places_add whole from start i 1 o.starts) ∙ ap (λ (zs : List T). place_behind moved sum_of start (take 1 zs)) b.2

-- what follows where a walk stands
module _ {P S T : Type 0} {moved : P → S → Option P} {fits : P → S → Type 0} {empty : S} {op : S → S → S} {sum_of : T → S} {whole : List T} {from : P} {rest : List T} {start end : P} {i : ℕ} where
  -- a walk on from behind the item on which one stands
  pub walks_on : {item : Option (Bor T)} {x : Bor T} {n k : ℕ} {rest2 : List T} {item2 : Option (Bor T)} {start2 end2 : P} → IsAt moved fits empty op sum_of whole from rest item start end i → item ≡ Some x → IsAt moved fits empty op sum_of rest end rest2 item2 start2 end2 n → k ≡ i + 1 + n → IsAt moved fits empty op sum_of whole from rest2 item2 start2 end2 k
  walks_on {item} {x} {n} {k} {rest2} {item2} {start2} {end2} o e w f =
      let b = behind_item o e in
      let on : IsAt moved fits empty op sum_of whole from rest2 item2 start2 end2 (i + 1 + n) = at_further moved fits empty op sum_of whole rest from end (i + 1) n rest2 item2 start2 end2 (omega (arith, b.0)) b.1 o.ends w in
      subst (IsAt moved fits empty op sum_of whole from rest2 item2 start2 end2) (sym f) on

  -- a seek stays on an item whose end stops it
  pub seek_stays : {item : Option (Bor T)} {x : Bor T} (stops : P → Bool) → IsAt moved fits empty op sum_of whole from rest item start end i → item ≡ Some x → stops end ≡ true → seek_count moved sum_of stops (place_behind moved sum_of from (take i whole)) (drop i whole) ≡ 0
  seek_stays {item} {x} stops o e h =
      let b = behind_item o e in
      let t : stops (behind start (moved start (sum_of x.now))) ≡ true = ap stops (sym (end_is moved fits empty op sum_of whole from rest item x start end i o e)) ∙ h in
      ap (λ (p : P). seek_count moved sum_of stops p (drop i whole)) (sym o.starts) ∙ ap (seek_count moved sum_of stops start) b.2 ∙ ap (λ (c : Bool). cond c 0 (1 + seek_count moved sum_of stops (behind start (moved start (sum_of x.now))) rest)) t

  -- a seek goes over an item whose end does not stop it
  pub seek_goes : {item : Option (Bor T)} {x : Bor T} {n : ℕ} (stops : P → Bool) → IsAt moved fits empty op sum_of whole from rest item start end i → item ≡ Some x → stops end ≡ false → n ≡ seek_count moved sum_of stops end rest → 1 + n ≡ seek_count moved sum_of stops (place_behind moved sum_of from (take i whole)) (drop i whole)
  seek_goes {item} {x} {n} stops o e h m =
      let b = behind_item o e in
      let ended = end_is moved fits empty op sum_of whole from rest item x start end i o e in
      let t : stops (behind start (moved start (sum_of x.now))) ≡ false = ap stops (sym ended) ∙ h in
      let over : seek_count moved sum_of stops (place_behind moved sum_of from (take i whole)) (drop i whole) ≡ 1 + seek_count moved sum_of stops (behind start (moved start (sum_of x.now))) rest =
      ap (λ (p : P). seek_count moved sum_of stops p (drop i whole)) (sym o.starts) ∙ ap (seek_count moved sum_of stops start) b.2 ∙ ap (λ (c : Bool). cond c 0 (1 + seek_count moved sum_of stops (behind start (moved start (sum_of x.now))) rest)) t in
      omega (arith, over, m, ap (λ (p : P). seek_count moved sum_of stops p rest) ended)

  -- nothing stands past the last item
  pub none_at : {item : Option (Bor T)} → IsAt moved fits empty op sum_of whole from rest item start end i → item ≡ None → (i ≡ length whole) × (drop i whole ≡ [])
  none_at {item} o e =
      let here : [] ≡ drop i whole = ap (λ (u : Option (Bor T)). ahead u rest) (sym e) ∙ o.here in
      let many : length {A = T} [] ≡ length whole - i = ap length here ∙ length-drop i whole in
      (omega (arith, many, o.within), sym here)

  -- where the next walk begins
  pub walk_begins : (item : Option (Bor T)) → IsAt moved fits empty op sum_of whole from rest item start end i → (index_behind item i ≡ min (i + 1) (length whole)) × (rest ≡ drop (index_behind item i) whole) × (end ≡ place_behind moved sum_of from (take (index_behind item i) whole))
  walk_begins (Some x) o =
      let b = behind_item o refl in
      (grind (arith, b.0), o.behind, o.ends)
  walk_begins None o =
      let n = none_at o refl in
      let far : take (i + 1) whole ≡ take i whole = take_all (i + 1) whole (omega (arith, n.0)) ∙ sym (take_all i whole (omega (arith, n.0))) in
      (grind (arith, n.0), o.behind ∙ sym (drop-drop 1 i whole) ∙ ap (drop 1) n.1 ∙ sym n.1, o.ends ∙ ap (place_behind moved sum_of from) far)
