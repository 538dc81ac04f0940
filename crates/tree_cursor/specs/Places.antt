-- What dimensions keep, and the places of the items of a list.
use Rattle.std.specs.Prelude.{◌≡◌, ℕ, ◌+◌, Bool, cond, Option, Some, None, IsSome, List, [], ◌∷◌}

-- Adding no items changes nothing. Where a sum is added whole, its parts can be added in turn, with the same result.
-- The sum of a single item is added whole. A place moves to later ones. Where what is added fits, so do its parts.
pub record DimensionLaws {P S : Type 0} (empty : S) (op : S → S → S) (admits single : S → Type 0)
    (later : P → P → Type 0) (moved : P → S → Option P) (fits : P → S → Type 0) : Type 0 where
  pub nothing : (p q : P) → moved p empty ≡ Some q → q ≡ p
  pub parts : (p q : P) (a b : S) → admits a → admits b → moved p (op a b) ≡ Some q
      → (r : P) × (moved p a ≡ Some r) × (moved r b ≡ Some q)
  pub one : (p : P) (a : S) → admits a → single a → fits p a → (q : P) × (moved p a ≡ Some q)
  pub forward : (p q : P) (a : S) → admits a → moved p a ≡ Some q → later p q
  pub fits_front : (p : P) (a b : S) → admits a → admits b → fits p (op a b) → fits p a
  pub fits_back : (p r : P) (a b : S) → admits a → admits b → fits p (op a b) → moved p a ≡ Some r → fits r b

-- every sum is added whole
abbrev pub AlwaysAdds : {P S : Type 0} → (P → S → Option P) → Type 0
AlwaysAdds {P} {S} moved = (p : P) (s : S) → IsSome (moved p s)

-- the place behind a sum that is added whole
abbrev pub behind : {P : Type 0} → P → Option P → P
behind p None = p
behind p (Some q) = q

-- the place behind the items, which are added one by one
abbrev pub place_behind : {P S T : Type 0} → (P → S → Option P) → (T → S) → P → List T → P
place_behind moved sum_of p [] = p
place_behind moved sum_of p (x ∷ xs) = place_behind moved sum_of (behind p (moved p (sum_of x))) xs

-- how many items a seek goes over: those before the first whose end stops it
abbrev pub seek_count : {P S T : Type 0} → (P → S → Option P) → (T → S) → (P → Bool) → P → List T → ℕ
seek_count moved sum_of stops p [] = 0
seek_count moved sum_of stops p (x ∷ xs) = cond (stops (behind p (moved p (sum_of x)))) 0
    (1 + seek_count moved sum_of stops (behind p (moved p (sum_of x))) xs)

-- how many items a filter goes over: those before the first that is kept
abbrev pub filter_count : {S T : Type 0} → (S → Bool) → (T → S) → List T → ℕ
filter_count keeps sum_of [] = 0
filter_count keeps sum_of (x ∷ xs) = cond (keeps (sum_of x)) 0 (1 + filter_count keeps sum_of xs)

-- how many items come before the first at which a walk halts, by that item's sum, its end and the index of its end
abbrev pub walk_count : {P S T : Type 0} → (P → S → Option P) → (T → S) → (S → P → ℕ → Bool) → P → ℕ → List T → ℕ
walk_count moved sum_of halts p i [] = 0
walk_count moved sum_of halts p i (x ∷ xs) = cond
    (halts (sum_of x) (behind p (moved p (sum_of x))) (i + 1)) 0
    (1 + walk_count moved sum_of halts (behind p (moved p (sum_of x))) (i + 1) xs)
