-- What the rules of walks come to, and the item at an index.
use Rattle.std.proofs.Common.{◌≡◌, ℕ, zero, suc, ◌+◌, Bool, cond, Option, Some, None, List, [], ◌∷◌, drop, ap, sym, refl, ◌∙◌, Bor, ◌-◌, min, nat_lt, arith, length}
use Rattle.std.specs.List.{slice_get}
use Rattle.std.proofs.lemmas.Bool.Decides.{nat_tests}
use Rattle.std.specs.Option.{option_copied}
use Rattle.tree_cursor.specs.Places.{behind, walk_count, seek_count, filter_count}
use Rattle.tree_cursor.specs.Halts.{ahead}
use Rattle.tree_cursor.specs.Place.{CursorState, Filtering}

more : (b : Bool) (n m : ℕ) → n ≡ m → cond b 0 (1 + n) ≡ cond b 0 (1 + m)
more b n m e = ap (λ (k : ℕ). cond b 0 (1 + k)) e

module _ {P S T : Type 0} (moved : P → S → Option P) (sum_of : T → S) where
  pub seek_passes : (stops : P → Bool) (p : P) (i : ℕ) (xs : List T) → walk_count moved sum_of (λ s q j. stops q) p i xs ≡ seek_count moved sum_of stops p xs
  seek_passes stops p i [] = refl
  seek_passes stops p i (x ∷ xs) = more (stops (behind p (moved p (sum_of x)))) _ _ (seek_passes stops (behind p (moved p (sum_of x))) (i + 1) xs)

  pub filter_passes : (keeps : S → Bool) (p : P) (i : ℕ) (xs : List T) → walk_count moved sum_of (λ s q j. keeps s) p i xs ≡ filter_count keeps sum_of xs
  filter_passes keeps p i [] = refl
  filter_passes keeps p i (x ∷ xs) = more (keeps (sum_of x)) _ _ (filter_passes keeps (behind p (moved p (sum_of x))) (i + 1) xs)

  -- a walk over so many items
  pub over_passes : (n : ℕ) (p : P) (i : ℕ) (xs : List T) → walk_count moved sum_of (λ s q j. nat_lt n j) p i xs ≡ min (n - i) (length xs)
  over_passes n p i [] = grind arith
  over_passes n p i (x ∷ xs) = let e = over_passes n (behind p (moved p (sum_of x))) (i + 1) xs in grind (arith, nat_tests)

-- the first of a list
head_of : {X : Type 0} → List X → Option X
head_of [] = None
head_of (x ∷ xs) = Some x

first_ahead : {T : Type 0} (item : Option (Bor T)) (rest : List T) → head_of (ahead item rest) ≡ option_copied item
unfolding head_of
first_ahead None rest = refl
first_ahead (Some x) rest = refl

get_at_drop : {X : Type 0} (xs : List X) (i : ℕ) → slice_get xs i ≡ head_of (drop i xs)
unfolding head_of
get_at_drop [] zero = refl
get_at_drop [] (suc i) = refl
get_at_drop (x ∷ xs) zero = refl
get_at_drop (x ∷ xs) (suc i) = get_at_drop xs i

-- the item of a walk is the one at its index
pub get_ahead : {T : Type 0} (whole rest : List T) (item : Option (Bor T)) (i : ℕ) → ahead item rest ≡ drop i whole → option_copied item ≡ slice_get whole i
unfolding head_of
get_ahead whole rest item i e = sym (first_ahead item rest) ∙ ap head_of e ∙ sym (get_at_drop whole i)

-- a cursor's value at an index
abbrev pub placed : {T D : Type 0} → List T → ℕ → D → ℕ → CursorState T D
placed xs h from n = record { items = xs; height = h; index = n; from = from }

-- a filter's value at two indexes
abbrev pub filtering : {T D K : Type 0} → List T → D → K → ℕ → ℕ → Filtering T D K
filtering xs from keep g n = record { items = xs; from = from; keep = keep; given = g; next = n }
