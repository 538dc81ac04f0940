-- Where a seek for an edit stops: at the first entry that is of no earlier edit.
use Rattle.std.proofs.Common.{◌≡◌, ℕ, zero, suc, ◌+◌, ◌<◌, ◌≤◌, Bool, true, false, cond, not, ◌⊎◌, List, [], ◌∷◌, length, get_or, take, drop, refl, sym, ap, ◌∙◌, subst, inl, inr, Option, None, Some, arith, slice_get, eqb}
use Rattle.std.proofs.lemmas.List.{take_all}
use Rattle.std.proofs.lemmas.Option.{get_or_from_slice_get, slice_get_within}
use Rattle.std.proofs.lemmas.Bool.{cases_Bool, both_ways}
use Rattle.std.specs.Ordering.{ordering_then, is_lt}
use Rattle.std.specs.declared.cmp.Ordering.TheVariants.{Less, Equal, Greater}
use Rattle.std.specs.List.{find}
use Rattle.tree_cursor.specs.Places.{seek_count, place_behind}
use Rattle.tree_cursor.specs.Keys.{greater, key_less, key_passes, cmp_less, IsLess}
use Rattle.tree_cursor.specs.KeyLaws.{order_less}
use Rattle.tree_cursor.specs.declared.ready.Greatest.{Greatest}
use Rattle.tree_cursor.specs.declared.traits.Bias.TheVariants.{Left}
use Rattle.lamport_clock.specs.declared.stamp.Lamport.{Lamport}
use Rattle.lamport_clock.specs.Stamps.{stamp_cmp}
use Rattle.lamport_clock.proofs.Order.{never_less}
use Rattle.lamport_clock.specs.Clocks.{last_value}
use Rattle.undo_map.specs.declared.entry.UndoKey.{UndoKey}
use Rattle.undo_map.specs.declared.entry.UndoEntry.{UndoEntry}
use Rattle.undo_map.specs.Counts.{key_of, key_cmp, is_earlier, IsAscending, count_of}
use Rattle.undo_map.specs.Keys.{key_order}
use Rattle.undo_map.proofs.Early.{late_after}
use Rattle.undo_map.specs.Undos.{undo_entries}
use Rattle.undo_map.proofs.Entries.{count_kept}
use Rattle.op_model.proofs.Elements.{none_past, find_same}
use Rattle.op_model.specs.Histories.{History}
use Rattle.op_model.specs.Shown.{count}

abbrev less : UndoKey → UndoKey → Bool
less a b = cmp_less key_cmp a b

order : IsLess less
order = order_less key_cmp key_order

abbrev key_sum : UndoEntry → Greatest UndoKey
key_sum e = record { key = Some (key_of e) }

abbrev move : Option UndoKey → Greatest UndoKey → Option (Option UndoKey)
move p s = Some (greater less p s.key)

-- how many entries a seek for a key goes over
abbrev pub sought : UndoKey → Option UndoKey → List UndoEntry → ℕ
sought k p w = seek_count move key_sum (λ q. key_passes less (Some k) q Left) p w

-- a greatest key so far that is less than k does not hide a key that is not
module _ {K : Type 0} (less : K → K → Bool) (order : IsLess less) where
  next_at : (a b k : K) (ab : Bool) → less a b ≡ ab → less a k ≡ true → key_less less (cond ab (Some b) (Some a)) (Some k) ≡ less b k
  next_at a b k true e h = refl
  next_at a b k false e h = elim (cases_Bool (less b k)) [
    | inl l ↦ h ∙ sym l
    | inr l ↦ absurd (both_ways _ (order.down a b k e l) h)
  ]

  pub key_less_next : (p : Option K) (b k : K) → key_less less p (Some k) ≡ true → key_less less (greater less p (Some b)) (Some k) ≡ less b k
  key_less_next None b k h = refl
  key_less_next (Some a) b k h = next_at a b k (less a b) refl h

-- what the seek goes over is less than the key, and what it stops at is not
pub record IsSought (k : UndoKey) (w : List UndoEntry) (n : ℕ) : Type 0 where
  pub within : n ≤ length w
  pub low : (i : ℕ) (d : UndoEntry) → i < n → less (key_of (get_or w i d)) k ≡ true
  pub high : (d : UndoEntry) → n < length w → less (key_of (get_or w n d)) k ≡ false

none_over : (k : UndoKey) (e : UndoEntry) (w : List UndoEntry) → less (key_of e) k ≡ false → IsSought k (e ∷ w) 0
none_over k e w l = record { within = omega arith; low = λ i d h. absurd (omega arith); high = λ d h. l }

one_over : (k : UndoKey) (e : UndoEntry) (w : List UndoEntry) (n : ℕ) → less (key_of e) k ≡ true → IsSought k w n → IsSought k (e ∷ w) (suc n)
one_over k e w n l s = record { within = let a = s.within in omega arith; low = low; high = λ d h. s.high d (omega arith) }
  where
    low : (i : ℕ) (d : UndoEntry) → i < suc n → less (key_of (get_or (e ∷ w) i d)) k ≡ true
    low zero d h = l
    low (suc i) d h = s.low i d (omega arith)

-- where the key is not reached the place does not matter
seek_here : (k : UndoKey) (e : UndoEntry) (w : List UndoEntry) (n : ℕ) → less (key_of e) k ≡ false → IsSought k (e ∷ w) (cond (not (less (key_of e) k)) 0 (1 + n))
seek_here k e w n l = rw l (none_over k e w l)

seek_on : (k : UndoKey) (e : UndoEntry) (w : List UndoEntry) (n : ℕ) → less (key_of e) k ≡ true → IsSought k w n → IsSought k (e ∷ w) (cond (not (less (key_of e) k)) 0 (1 + n))
seek_on k e w n l s = rw l (subst (IsSought k (e ∷ w)) (let m : suc n ≡ 1 + n = omega arith in m) (one_over k e w n l s))

pub seek_stops : (k : UndoKey) (p : Option UndoKey) (w : List UndoEntry) → key_less less p (Some k) ≡ true → IsSought k w (sought k p w)
seek_stops k p [] h = record { within = omega arith; low = λ i d l. absurd (omega arith); high = λ d l. absurd (omega arith) }
seek_stops k p (e ∷ w) h =
    let next : Option UndoKey = greater less p (Some (key_of e)) in
    let q : key_less less next (Some k) ≡ less (key_of e) k = key_less_next less order p (key_of e) k h in
    subst (λ (b : Bool). IsSought k (e ∷ w) (cond (not b) 0 (1 + sought k next w))) (sym q) (go (cases_Bool (less (key_of e) k)) next q (λ r. seek_stops k next w r))
  where
    go : (less (key_of e) k ≡ true) ⊎ (less (key_of e) k ≡ false) → (next : Option UndoKey) → key_less less next (Some k) ≡ less (key_of e) k
        → (key_less less next (Some k) ≡ true → IsSought k w (sought k next w)) → IsSought k (e ∷ w) (cond (not (less (key_of e) k)) 0 (1 + sought k next w))
    go (inl l) next q ih = seek_on k e w (sought k next w) l (ih (q ∙ l))
    go (inr l) next q ih = seek_here k e w (sought k next w) l

-- the least key of an edit
abbrev pub first_key : Lamport → UndoKey
first_key t = record { edit = t; by = record { value = 0; replica = 0 } }

less_first : (e : UndoEntry) (t : Lamport) → less (key_of e) (first_key t) ≡ is_earlier t e
less_first e t = elim (stamp_cmp e.edit t) as (λ o. is_lt (ordering_then o (stamp_cmp e.by (record { value = 0; replica = 0 }))) ≡ is_lt o) [
  | Less ↦ refl
  | Equal ↦ never_less e.by
  | Greater ↦ refl
]

-- the entries before the place are of earlier edits, and those from it on are not
pub record IsFirst (t : Lamport) (w : List UndoEntry) (n : ℕ) : Type 0 where
  pub within : n ≤ length w
  pub early : (k : ℕ) (d : UndoEntry) → k < n → is_earlier t (get_or w k d) ≡ true
  pub late : (k : ℕ) (d : UndoEntry) → n ≤ k → k < length w → is_earlier t (get_or w k d) ≡ false

pub first_of : (t : Lamport) (w : List UndoEntry) → IsAscending w → IsFirst t w (sought (first_key t) None w)
first_of t w a =
    let s = seek_stops (first_key t) None w refl in
    let n = sought (first_key t) None w in
    record {
      within = s.within;
      early = λ k d h. sym (less_first (get_or w k d) t) ∙ s.low k d h;
      late = λ k d h l. late_after w t n k d a h l (sym (less_first (get_or w n d) t) ∙ s.high d (omega arith));
    }

-- the place of a cursor that was made and sought once
pub cursor_first : (t : Lamport) (w items : List UndoEntry) (from : Option UndoKey) (i n : ℕ) → IsAscending w → items ≡ w → from ≡ None → i ≡ 0
    → n ≡ i + sought (first_key t) (place_behind move key_sum from (take i items)) (drop i items) → IsFirst t w n
cursor_first t w items from i n a e f z q =
    let k : UndoKey = first_key t in
    let start : i + sought k (place_behind move key_sum from (take i items)) (drop i items) ≡ 0 + sought k from items = ap (λ (j : ℕ). j + sought k (place_behind move key_sum from (take j items)) (drop j items)) z in
    let plain : 0 + sought k from items ≡ sought k from items = omega arith in
    let there : n ≡ sought k None w = q ∙ start ∙ plain ∙ ap (λ (p : Option UndoKey). sought k p items) f ∙ ap (λ (v : List UndoEntry). sought k None v) e in
    subst (λ (m : ℕ). IsFirst t w m) (sym there) (first_of t w a)

-- ---- one entry more

-- x stands at i
pub record IsHere (w : List UndoEntry) (i : ℕ) (x : UndoEntry) : Type 0 where
  pub within : i < length w
  pub at : (d : UndoEntry) → get_or w i d ≡ x

pub here : (w items : List UndoEntry) (i : ℕ) (x : UndoEntry) → items ≡ w → Some x ≡ slice_get items i → IsHere w i x
here w items i x e h =
    let r : Some x ≡ slice_get w i = h ∙ ap (λ (v : List UndoEntry). slice_get v i) e in
    record { within = slice_get_within w i x (sym r); at = λ d. get_or_from_slice_get w i x d (sym r) }

-- past the last entry, those before are all
pub all_before : (w items : List UndoEntry) (i : ℕ) → items ≡ w → None ≡ slice_get items i → take i w ≡ w
all_before w items i e h = take_all i w (none_past w i (sym (h ∙ ap (λ (v : List UndoEntry). slice_get v i) e)))

-- the entries of a history tell which count stands at its end
pub counts_at_end : (h : History) (w : List UndoEntry) (ts : List Lamport) → w ≡ undo_entries h → find (λ t. eqb (count_of w t) last_value) ts ≡ find (λ t. eqb (count h t) last_value) ts
counts_at_end h w ts q = find_same (λ t. eqb (count_of w t) last_value) (λ t. eqb (count h t) last_value) ts
    (λ t. ap (λ (z : List UndoEntry). eqb (count_of z t) last_value) q ∙ ap (λ (n : ℕ). eqb n last_value) (count_kept h t))
