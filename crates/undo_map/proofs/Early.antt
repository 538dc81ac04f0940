-- Where the counts of one edit stand.
use Rattle.std.proofs.Common.{◌≡◌, ℕ, suc, ◌+◌, ◌<◌, ◌≤◌, max, Bool, true, false, cond, ◌&&◌, List, [], ◌∷◌, ◌++◌, length, take, drop, get_or, refl, sym, ap, ◌∙◌, subst, inl, inr, ◌⊎◌, Option, None, Some, arith, get_or-drop, length-drop, take-append-drop}
use Rattle.std.proofs.lemmas.Bool.{cases_Bool, cases_lt, and_left, both_ways}
use Rattle.std.proofs.lemmas.List.{length-take-le, get_or-take, take_more}
use Rattle.std.specs.Ordering.{ordering_then, is_lt, is_eq, is_gt}
use Rattle.std.specs.declared.cmp.Ordering.{Ordering}
use Rattle.std.specs.declared.cmp.Ordering.TheVariants.{Less, Equal, Greater}
use Rattle.lamport_clock.specs.declared.stamp.Lamport.{Lamport}
use Rattle.lamport_clock.specs.Stamps.{same_stamp, stamp_cmp}
use Rattle.lamport_clock.specs.Versions.{Entries, sees}
use Rattle.lamport_clock.proofs.Order.{is_eq-same, earlier_still, later_still}
use Rattle.undo_map.specs.declared.entry.UndoEntry.{UndoEntry}
use Rattle.undo_map.specs.Counts.{greatest, IsAscending, is_earlier, counts_for, is_seen}
use Rattle.undo_map.proofs.Greatest.{greatest-append, greatest-cons, adds}

then_less : (a b : Ordering) → ordering_then a b ≡ Less → is_gt a ≡ false
then_less Less b h = refl
then_less Equal b h = refl
then_less Greater b h = cc

pub early_before : (w : List UndoEntry) (t : Lamport) (i j : ℕ) (d : UndoEntry) → IsAscending w → i < j → j < length w → is_earlier t (get_or w j d) ≡ true → is_earlier t (get_or w i d) ≡ true
early_before w t i j d a l m h = earlier_still (get_or w i d).edit (get_or w j d).edit t (then_less _ _ (a i j d l m)) h

pub late_after : (w : List UndoEntry) (t : Lamport) (i j : ℕ) (d : UndoEntry) → IsAscending w → i ≤ j → j < length w → is_earlier t (get_or w i d) ≡ false → is_earlier t (get_or w j d) ≡ false
late_after w t i j d a l m h = go (cases_Bool (is_earlier t (get_or w j d))) (cases_lt i j)
  where
    go : (is_earlier t (get_or w j d) ≡ true) ⊎ (is_earlier t (get_or w j d) ≡ false) → (i < j) ⊎ (j ≤ i) → is_earlier t (get_or w j d) ≡ false
    go (inr f) o = f
    go (inl e) (inl s) = absurd (both_ways _ h (early_before w t i j d a s m e))
    go (inl e) (inr s) = absurd (both_ways _ h (subst (λ k. is_earlier t (get_or w k d) ≡ true) (let q : j ≡ i = omega arith in q) e))

-- ---- entries that count nothing

pub none_counts : (p : UndoEntry → Bool) (w : List UndoEntry) → ((k : ℕ) (d : UndoEntry) → k < length w → p (get_or w k d) ≡ false) → greatest p w ≡ 0
none_counts p [] f = refl
none_counts p (e ∷ w) f = ap (λ b. cond b (max e.count (greatest p w)) (greatest p w)) (f 0 e (omega arith)) ∙ none_counts p w (λ k d l. f (suc k) d (omega arith))

not_counted : (t : Lamport) (at : Option Entries) (e : UndoEntry) → same_stamp e.edit t ≡ false → counts_for t at e ≡ false
not_counted t None e h = h
not_counted t (Some v) e h = and_left _ _ h

-- an earlier entry is of another edit
early_apart : (t : Lamport) (at : Option Entries) (e : UndoEntry) → is_earlier t e ≡ true → counts_for t at e ≡ false
early_apart t at e h = not_counted t at e (sym (is_eq-same e.edit t) ∙ apart (stamp_cmp e.edit t) h)
  where
    apart : (o : Ordering) → is_lt o ≡ true → is_eq o ≡ false
    apart Less q = refl
    apart Equal q = cc
    apart Greater q = cc

-- an entry that is neither earlier nor of the edit is later, and so are all behind it
later_apart : (w : List UndoEntry) (t : Lamport) (at : Option Entries) (i k : ℕ) (d : UndoEntry) → IsAscending w → i ≤ k → k < length w → is_earlier t (get_or w i d) ≡ false → same_stamp (get_or w i d).edit t ≡ false → counts_for t at (get_or w k d) ≡ false
later_apart w t at i k d a l m e s = go (cases_lt i k)
  where
    go : (i < k) ⊎ (k ≤ i) → counts_for t at (get_or w k d) ≡ false
    go (inl h) = not_counted t at _ (sym (is_eq-same (get_or w k d).edit t) ∙ later_still (get_or w i d).edit (get_or w k d).edit t e (is_eq-same (get_or w i d).edit t ∙ s) (then_less _ _ (a i k d h m)))
    go (inr h) = let q : i ≡ k = omega arith in not_counted t at _ (subst (λ j. same_stamp (get_or w j d).edit t ≡ false) q s)

-- the entries before all that are not earlier count nothing
pub front_counts : (w : List UndoEntry) (t : Lamport) (at : Option Entries) (n : ℕ) → n ≤ length w → ((k : ℕ) (d : UndoEntry) → k < n → is_earlier t (get_or w k d) ≡ true) → greatest (counts_for t at) (take n w) ≡ 0
front_counts w t at n l f = none_counts (counts_for t at) (take n w) (λ k d m.
    let long : length (take n w) ≡ n = length-take-le n w l in
    let low : k < n = omega arith in
    ap (counts_for t at) (get_or-take n w k d low) ∙ early_apart t at (get_or w k d) (f k d low))

-- the entries from a later one on count nothing
pub rest_counts : (w : List UndoEntry) (t : Lamport) (at : Option Entries) (i : ℕ) → IsAscending w → i < length w → ((d : UndoEntry) → is_earlier t (get_or w i d) ≡ false) → ((d : UndoEntry) → same_stamp (get_or w i d).edit t ≡ false) → greatest (counts_for t at) w ≡ greatest (counts_for t at) (take i w)
rest_counts w t at i a l e s =
    let p : UndoEntry → Bool = counts_for t at in
    let none : greatest p (drop i w) ≡ 0 = none_counts p (drop i w) (λ k d m.
    let long = length-drop i w in
    ap p (get_or-drop i w k d) ∙ later_apart w t at i (i + k) d a (omega arith) (omega arith) (e d) (s d)) in
    let parts = greatest-append p (take i w) (drop i w) in
    let whole : greatest p (take i w ++ drop i w) ≡ greatest p w = ap (greatest p) (take-append-drop i w) in
    omega arith

counted : (t : Lamport) (at : Option Entries) (e : UndoEntry) → same_stamp e.edit t ≡ true → adds (counts_for t at) e ≡ cond (is_seen at e.by) e.count 0
counted t None e h = ap (λ b. cond b e.count 0) h
counted t (Some v) e h = ap (λ b. cond (b && sees v e.by) e.count 0) h

-- one more entry of the edit
pub counts_more : (w : List UndoEntry) (t : Lamport) (at : Option Entries) (i g x : ℕ) (e : UndoEntry) → i < length w → ((d : UndoEntry) → get_or w i d ≡ e) → g ≡ greatest (counts_for t at) (take i w) → same_stamp e.edit t ≡ true → x ≡ cond (is_seen at e.by) e.count 0 → max g x ≡ greatest (counts_for t at) (take (i + 1) w)
counts_more w t at i g x e l f h s q =
    let p : UndoEntry → Bool = counts_for t at in
    let more : take (i + 1) w ≡ take i w ++ e ∷ [] = take_more w i e l ∙ ap (λ z. take i w ++ z ∷ []) (f e) in
    let parts = greatest-append p (take i w) (e ∷ []) in
    let one = greatest-cons p e [] in
    let is : adds p e ≡ cond (is_seen at e.by) e.count 0 = counted t at e s in
    let all : greatest p (take (i + 1) w) ≡ greatest p (take i w ++ e ∷ []) = ap (greatest p) more in
    omega arith
