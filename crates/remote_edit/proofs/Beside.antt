-- A number paired with a place does not change the place.
use Rattle.std.proofs.Common.{◌≡◌, ℕ, ◌+◌, Bool, cond, Option, Some, List, [], ◌∷◌, refl, sym, ap, ◌∙◌, arith}
use Rattle.std.specs.Option.{option_map}
use Rattle.tree_cursor.specs.Places.{behind, place_behind, seek_count}
use Rattle.remote_edit.specs.Beside.{beside, move_beside}

module _ {P S T : Type 0} (moved : P → S → Option P) (adds : S → ℕ) (sum_of : T → S) (whole : (p : P) (x : T) → (q : P) × (moved p (sum_of x) ≡ Some q)) where
  pub one_behind : (p : P) (n : ℕ) (x : T) → behind (beside n p) (move_beside moved adds (beside n p) (sum_of x)) ≡ beside (n + adds (sum_of x)) (behind p (moved p (sum_of x)))
  one_behind p n x = let k = whole p x in
      ap (λ o. behind (beside n p) (option_map (beside (n + adds (sum_of x))) o)) k.1 ∙ sym (ap (λ o. beside (n + adds (sum_of x)) (behind p o)) k.1)

  pub count_beside : (stops : P → Bool) (p : P) (n : ℕ) (xs : List T) → seek_count (move_beside moved adds) sum_of (λ q. stops q.0) (beside n p) xs ≡ seek_count moved sum_of stops p xs
  count_beside stops p n [] = refl
  count_beside stops p n (x ∷ xs) =
      let q : P = behind p (moved p (sum_of x)) in
      ap (λ z. cond (stops z.0) 0 (1 + seek_count (move_beside moved adds) sum_of (λ q. stops q.0) z xs)) (one_behind p n x)
      ∙ ap (λ k. cond (stops q) 0 (1 + k)) (count_beside stops q (n + adds (sum_of x)) xs)

  pub place_beside : (total : List T → ℕ) → total [] ≡ 0 → ((x : T) (xs : List T) → total (x ∷ xs) ≡ adds (sum_of x) + total xs) → (p : P) (n : ℕ) (xs : List T)
      → place_behind (move_beside moved adds) sum_of (beside n p) xs ≡ beside (n + total xs) (place_behind moved sum_of p xs)
  place_beside total none more p n [] = ap (λ k. beside k p) (let e : n ≡ n + total [] = omega (arith, none) in e)
  place_beside total none more p n (x ∷ xs) =
      let q : P = behind p (moved p (sum_of x)) in
      let m = more x xs in
      ap (λ z. place_behind (move_beside moved adds) sum_of z xs) (one_behind p n x)
      ∙ place_beside total none more q (n + adds (sum_of x)) xs
      ∙ ap (λ k. beside k (place_behind moved sum_of q xs)) (let e : n + adds (sum_of x) + total xs ≡ n + total (x ∷ xs) = omega (arith, m) in e)
