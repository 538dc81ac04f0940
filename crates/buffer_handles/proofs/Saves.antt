-- Records that are written one after the other.
use Rattle.std.proofs.Common.{◌≡◌, ◌≤◌, ◌∙◌, ℕ, zero, suc, ◌+◌, List, [], ◌∷◌, ◌++◌, Option, None, Some, ap, sym, drop, length, map, take, arith}
use Rattle.std.specs.List.{flat_map, slice_get}
use Rattle.std.proofs.lemmas.List.{drop_all, flat_map_more}
use Rattle.std.proofs.lemmas.Option.{get_or_from_slice_get, slice_get_within}
use Rattle.std.proofs.Math.Seq.{take-suc}
use Rattle.lamport_clock.specs.Versions.{Entries}
use Rattle.op_model.specs.Choice.{first_of}
use Rattle.op_model.specs.declared.operation.Operation.{Operation}
use Rattle.op_wire.specs.declared.fault.EncodeFault.{EncodeFault}
use Rattle.op_wire.specs.declared.fault.EncodeFault.TheVariants.{Long, OutOfMemory}
use Rattle.buffer_handles.specs.Saving.{IsLong, first_long, unseen_long}

-- the items up to the next one
pub take_next : {X : Type 0} → (xs : List X) → (i : ℕ) → (x : X) → slice_get xs i ≡ Some x → take i xs ++ x ∷ [] ≡ take (i + 1) xs
take_next xs i x is =
    let next : suc i ≡ i + 1 = omega arith in
    ap (λ y. take i xs ++ y ∷ []) (sym (get_or_from_slice_get xs i x x is)) ∙ sym (take-suc xs i x (slice_get_within xs i x is)) ∙ ap (λ (n : ℕ). take n xs) next

-- what is written of the items up to the next one
pub written_next : {X A : Type 0} → (f : X → List A) → (xs : List X) → (i : ℕ) → (x : X) → slice_get xs i ≡ Some x
    → flat_map f (take i xs) ++ f x ≡ flat_map f (take (i + 1) xs)
written_next f xs i x is = flat_map_more f [] (take i xs) x ∙ ap (flat_map f) (take_next xs i x is)

-- ---- numbers that are too great

-- the next item, and those after it
drop_next : {X : Type 0} → (xs : List X) → (i : ℕ) → (x : X) → slice_get xs i ≡ Some x → drop i xs ≡ x ∷ drop (i + 1) xs
drop_next [] i x is = absurd (cc is)
drop_next (y ∷ xs) zero x is = let same : y ≡ x = cc is in ap (λ z. z ∷ xs) same
drop_next (y ∷ xs) (suc i) x is = let more : suc i + 1 ≡ suc (i + 1) = omega arith in rw more (drop_next xs i x is)

-- past the end there is no item
pub none_past : {X : Type 0} → (xs : List X) → (i : ℕ) → slice_get xs i ≡ None → length xs ≤ i
none_past [] i is = omega arith
none_past (y ∷ xs) zero is = absurd (cc is)
none_past (y ∷ xs) (suc i) is = let past = none_past xs i is in omega (arith, past)

-- the next operation has no such number
pub first_long-next : (v : Entries) → (h : List Operation) → (i : ℕ) → (op : Operation) → slice_get h i ≡ Some op → unseen_long v op ≡ None → first_long v (drop (i + 1) h) ≡ first_long v (drop i h)
first_long-next v h i op is short = sym (ap (first_long v) (drop_next h i op is) ∙ ap (λ (o : Option ℕ). first_of (o ∷ map (unseen_long v) (drop (i + 1) h))) short)

-- the next operation has one, if that is why it is not written
pub first_long-here : (v : Entries) → (h : List Operation) → (i : ℕ) → (op : Operation) → (e : EncodeFault) → slice_get h i ≡ Some op → IsLong (unseen_long v op) e → IsLong (first_long v (drop i h)) e
first_long-here v h i op (Long n) is long = ap (first_long v) (drop_next h i op is) ∙ ap (λ (o : Option ℕ). first_of (o ∷ map (unseen_long v) (drop (i + 1) h))) long
first_long-here v h i op OutOfMemory is long = tt

-- where nothing is left, there is no such number
pub first_long-end : (v : Entries) → (h : List Operation) → (i : ℕ) → length h ≤ i → first_long v (drop i h) ≡ None
first_long-end v h i past = ap (first_long v) (drop_all i h past)
