-- What waits, gone through one after the other, the least stamp first.
use Rattle.std.proofs.Common.{◌≡◌, ◌<◌, ◌≤◌, ◌∙◌, ◌+◌, ℕ, zero, suc, List, [], ◌∷◌, ◌++◌, Bool, true, cond, Option, None, Some, length, map, refl, sym, ap, subst, take, arith}
use Rattle.std.specs.List.{AllByRecursion, find, slice_get}
use Rattle.std.proofs.lemmas.List.{length-append, map-append, take_all}
use Rattle.std.proofs.lemmas.Option.{slice_get_within}
use Rattle.lamport_clock.specs.declared.stamp.Lamport.{Lamport}
use Rattle.lamport_clock.proofs.Later.{later_irrefl, one_way}
use Rattle.op_model.specs.declared.operation.Operation.{Operation}
use Rattle.op_model.specs.Operations.{stamp_of}
use Rattle.op_model.specs.Sorted.{Ascending}
use Rattle.op_model.specs.Steps.{older}
use Rattle.deferred_ops.specs.Deferred.{is_past, least_past}
use Rattle.c_values.specs.declared.stamps.Stamp.{Stamp}
use Rattle.buffer_handles.specs.Waiting.{flat_stamp}
use Rattle.buffer_handles.proofs.Saves.{take_next}

-- ---- the next one

first_past : (w : List Operation) → least_past None w ≡ slice_get w 0
first_past [] = refl
first_past (op ∷ w) = refl

-- the first past one that stands before all others
past_first : (x : Operation) → (s : List Operation) → AllByRecursion (λ (y : Operation). older x y ≡ true) s → find (is_past (Some (stamp_of x))) s ≡ slice_get s 0
past_first x [] all = refl
past_first x (y ∷ s) all = ap (λ (t : Bool). cond t (Some y) (find (is_past (Some (stamp_of x))) s)) all.0

older_than : (x op : Operation) → (s : List Operation) → (i : ℕ) → AllByRecursion (λ (y : Operation). older x y ≡ true) s → slice_get s i ≡ Some op → older x op ≡ true
older_than x op [] i all is = absurd (cc is)
older_than x op (y ∷ s) zero all is = let same : y ≡ op = cc is in subst (λ (z : Operation). older x z ≡ true) same all.0
older_than x op (y ∷ s) (suc i) all is = older_than x op s i all.1 is

-- past the one at a place comes the one at the next place
past_this : (w : List Operation) → (i : ℕ) → (op : Operation) → Ascending older w → slice_get w i ≡ Some op → least_past (Some (stamp_of op)) w ≡ slice_get w (suc i)
past_this [] i op up is = absurd (cc is)
past_this (x ∷ s) zero op up is =
    let same : x ≡ op = cc is in
    subst (λ (z : Operation). least_past (Some (stamp_of z)) (x ∷ s) ≡ slice_get s 0) same
    (ap (λ (t : Bool). cond t (Some x) (find (is_past (Some (stamp_of x))) s)) (later_irrefl (stamp_of x)) ∙ past_first x s up.0)
past_this (x ∷ s) (suc i) op up is =
    ap (λ (t : Bool). cond t (Some x) (find (is_past (Some (stamp_of op))) s)) (one_way (stamp_of op) (stamp_of x) (older_than x op s i up.0 is)) ∙ past_this s i op up.1 is

-- ---- the list of stamps

-- the stamps of the first operations, and the last of these stamps
pub record IsListing (w : List Operation) (stamps : List Stamp) (last : Option Lamport) : Type 0 where
  pub listed : stamps ≡ map flat_stamp (take (length stamps) w)
  pub next : least_past last w ≡ slice_get w (length stamps)

pub listing_begins : (w : List Operation) → IsListing w [] None
listing_begins w = record { listed = refl; next = first_past w }

-- one more
pub listing_next : (w : List Operation) → (stamps new : List Stamp) → (last : Option Lamport) → (op : Operation) → Ascending older w → IsListing w stamps last → least_past last w ≡ Some op
    → new ≡ stamps ++ flat_stamp op ∷ [] → IsListing w new (Some (stamp_of op))
listing_next w stamps new last op up was is made =
    let n : ℕ = length stamps in
    let got : slice_get w n ≡ Some op = sym was.next ∙ is in
    let longer : length new ≡ n + 1 = ap length made ∙ length-append stamps (flat_stamp op ∷ []) in
    let on : suc n ≡ length new = omega (arith, longer) in
    record {
      listed = made ∙ ap (λ (xs : List Stamp). xs ++ flat_stamp op ∷ []) was.listed ∙ sym (map-append flat_stamp (take n w) (op ∷ []))
          ∙ ap (map flat_stamp) (take_next w n op got) ∙ ap (λ (k : ℕ). map flat_stamp (take k w)) (sym longer);
      next = past_this w n op up got ∙ ap (slice_get w) on;
    }

-- all of them
pub listing_ends : (w : List Operation) → (stamps : List Stamp) → (last : Option Lamport) → IsListing w stamps last → length w ≤ length stamps → stamps ≡ map flat_stamp w
listing_ends w stamps last was all = was.listed ∙ ap (map flat_stamp) (take_all (length stamps) w all)
