-- A seek that ends where a fragment does goes over that one too.
use Rattle.std.proofs.Common.{◌≡◌, ℕ, zero, suc, ◌+◌, ◌-◌, ◌<◌, ◌≤◌, ◌⊎◌, List, [], ◌∷◌, ◌++◌, length, take, drop, Bool, Option, refl, sym, ap, ◌∙◌, arith, subst, true, false, None, inl, inr, append-nil}
use Rattle.std.specs.List.{AllByRecursion}
use Rattle.std.proofs.lemmas.Bool.{cases_Bool}
use Rattle.std.proofs.lemmas.List.{length-drop, drop-drop}
use Rattle.std.proofs.Math.Seq.{take-add}
use Rattle.tree_cursor.specs.Place.{CursorState}
use Rattle.tree_cursor.specs.Places.{behind, place_behind, seek_count}
use Rattle.lamport_clock.specs.declared.stamp.Lamport.{Lamport}
use Rattle.lamport_clock.specs.Versions.{Entries, sees}
use Rattle.fragments.specs.declared.fragment.Fragment.{Fragment}
use Rattle.fragments.proofs.Cells.{IsWithin, within_none}
use Rattle.remote_edit.specs.Walk.{seen_bytes, advance}
use Rattle.remote_edit.specs.Steps.{seen_stop, IsSought, IsStop}
use Rattle.remote_edit.proofs.Passing.{own, own_len, seen_cons, seen_append, adv_whole}
use Rattle.remote_edit.proofs.Seeking.{cursor_stop, found, in_first, seek_low}

-- a seek goes over no more items than there are
pub seek_within : {P S T : Type 0} (moved : P → S → Option P) (sum_of : T → S) (stops : P → Bool) (p : P) (xs : List T) → seek_count moved sum_of stops p xs ≤ length xs
seek_within moved sum_of stops p [] = omega arith
seek_within moved sum_of stops p (x ∷ xs) =
    let ih = seek_within moved sum_of stops (behind p (moved p (sum_of x))) xs in
    elim (cases_Bool (stops (behind p (moved p (sum_of x))))) [ inl e ↦ rw e (omega arith) | inr e ↦ rw e (omega (arith, ih)) ]

-- where a cursor's seek from the first item stops, and where that item ends
module _ {P S T D : Type 0} (moved : P → S → Option P) (sum_of : T → S) (stops : P → Bool) (plain : D → P) where
  pub cursor_end : (xs : List T) (start : D) (cur new : CursorState T D) (index : ℕ) (got : P) → cur.items ≡ xs → cur.index ≡ 0 → cur.from ≡ start
      → new ≡ record cur { index = cur.index + seek_count moved sum_of stops (place_behind moved sum_of (plain cur.from) (take cur.index cur.items)) (drop cur.index cur.items) }
      → index ≡ new.index → got ≡ place_behind moved sum_of (plain new.from) (take (new.index + 1) new.items)
      → (index ≡ seek_count moved sum_of stops (plain start) xs) × (got ≡ place_behind moved sum_of (plain start) (take (index + 1) xs))
  cursor_end xs start cur new index got ei ej ef em ek eg =
      let items : new.items ≡ xs = ap (λ (z : CursorState T D). z.items) em ∙ ei in
      let from : new.from ≡ start = ap (λ (z : CursorState T D). z.from) em ∙ ef in
      let behind_of : ℕ → List T → D → P = λ j ys d. place_behind moved sum_of (plain d) (take (j + 1) ys) in
      let s = cursor_stop moved sum_of stops plain xs start cur new index (place_behind moved sum_of (plain new.from) (take new.index new.items)) ei ej ef em ek refl in
      (s.0, eg ∙ ap (λ (j : ℕ). behind_of j new.items new.from) (sym ek) ∙ ap (λ (ys : List T). behind_of index ys new.from) items ∙ ap (λ (d : D). behind_of index xs d) from)

-- what a seek over n cells to index j gives, with k of them left
pub record Found (t : Lamport) (v : Entries) (xs : List Fragment) (n i k j p place : ℕ) : Type 0 where
  pub sought : IsSought t v xs n i k j p
  pub low : p ≤ place + n
  pub on : i ≤ j
  pub within : IsWithin k (drop j xs)

module _ (t : Lamport) (v : Entries) (xs : List Fragment) (n i place k : ℕ) (stop : k ≡ seen_stop v (place + n) xs) (ep : place ≡ seen_bytes v (take i xs)) (l : i ≤ length xs) (h : 0 < n) where
  abbrev before : ℕ
  before = seen_bytes v (take k xs)

  -- one fragment further
  next_take : take (k + 1) xs ≡ take k xs ++ take 1 (drop k xs)
  next_take = take-add k 1 xs

  next_seen : seen_bytes v (take (k + 1) xs) ≡ before + seen_bytes v (take 1 (drop k xs))
  next_seen = ap (seen_bytes v) next_take ∙ seen_append v (take k xs) (take 1 (drop k xs))

  after_one : (rest : List Fragment) → drop k xs ≡ rest → seen_bytes v (take (k + 1) xs) ≡ place + n → Found t v xs n i 0 (k + 1) (place + n) place
  after_one [] d e =
      let a = next_seen in
      let b : seen_bytes v (take 1 (drop k xs)) ≡ 0 = ap (λ (z : List Fragment). seen_bytes v (take 1 z)) d in
      let lo = seek_low v (place + n) xs k (omega arith) stop in
      absurd (omega (arith, a, b, e, lo))
  after_one (f ∷ r) d e =
      let f0 = found t v xs n i place k before stop refl ep l h in
      let a = next_seen in
      let b : seen_bytes v (take 1 (drop k xs)) ≡ own v f + 0 = ap (λ (z : List Fragment). seen_bytes v (take 1 z)) d ∙ seen_cons v f [] in
      let lo = seek_low v (place + n) xs k (omega arith) stop in
      let o : own v f ≡ place + n - before = omega (arith, a, b, e) in
      let r_is : drop (k + 1) xs ≡ r = sym (drop-drop 1 k xs) ∙ ap (drop 1) d in
      let t_is : take (k + 1) xs ≡ take k xs ++ f ∷ [] = next_take ∙ ap (λ (z : List Fragment). take k xs ++ take 1 z) d in
      let len = ap length d in
      let ln = length-drop k xs in
      elim (cases_Bool (sees v f.stamp)) [
        | inr s ↦ absurd (let z : own v f ≡ 0 = rw s refl in omega (arith, z, o, lo))
        | inl s ↦ (let z : own v f ≡ f.len = rw s refl in
            let m : ℕ = place + n - before in
            let pos : 0 < m = omega (arith, lo) in
            let whole = adv_whole None t v (take k xs) r f m pos s (omega (arith, z, o)) in
            let none : m - f.len ≡ 0 = omega (arith, z, o) in
            record {
              sought = record {
                goes = ap (λ (q : List Fragment). advance None t v 0 q (drop (k + 1) xs)) t_is ∙ ap (advance None t v 0 (take k xs ++ f ∷ [])) r_is
                    ∙ ap (λ (j : ℕ). advance None t v j (take k xs ++ f ∷ []) r) (sym none) ∙ sym whole ∙ ap (advance None t v m (take k xs)) (sym d) ∙ f0.0.goes;
                within = omega (arith, len, ln);
                place = sym e;
              };
              low = omega arith;
              on = let q = f0.1.1.0 in omega (arith, q);
              within = within_none 0 (drop (k + 1) xs) refl;
            })
      ]

-- where a seek may stop
pub found_any : (t : Lamport) (v : Entries) (xs : List Fragment) (n i place j p : ℕ) → IsStop v (place + n) xs j → p ≡ seen_bytes v (take j xs) → place ≡ seen_bytes v (take i xs) → i ≤ length xs → 0 < n
    → Found t v xs n i (place + n - p) j p place
found_any t v xs n i place j p s q ep l h = elim s [
  | inl e ↦ (let f = found t v xs n i place j p e q ep l h in
      let d : p + (place + n - p) ≡ place + n = omega (arith, f.1.0) in
      record { sought = f.0; low = f.1.0; on = f.1.1.0; within = in_first v (place + n) p (place + n - p) (drop j xs) f.1.1.1 d })
  | inr e ↦ (let k : ℕ = seen_stop v (place + n) xs in
      let b : seen_bytes v (take (k + 1) xs) ≡ place + n = ap (λ (m : ℕ). seen_bytes v (take m xs)) (sym e.0) ∙ e.1 in
      let pe : p ≡ place + n = q ∙ e.1 in
      let z : place + n - p ≡ 0 = omega (arith, pe) in
      let a = after_one t v xs n i place k refl ep l h (drop k xs) refl b in
      subst (λ (m : ℕ). Found t v xs n i m j p place) (sym z) (subst (λ (m : ℕ). Found t v xs n i 0 m p place) (sym e.0) (subst (λ (m : ℕ). Found t v xs n i 0 (k + 1) m place) (sym pe) a)))
]
