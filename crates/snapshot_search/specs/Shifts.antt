-- How far a needle is moved on where what follows differs from it.
use Rattle.std.specs.Prelude.{◌≡◌, ℕ, ◌+◌, ◌-◌, ◌<◌, ◌≤◌, List, length, slice_index}

-- the first n bytes of the needle stand in the text from place s on
abbrev pub Agrees : List ℕ → List ℕ → ℕ → ℕ → Type 0
Agrees text needle s n = (j : ℕ) → j < n → slice_index text (s + j) ≡ slice_index needle j

-- k is the most bytes, fewer than q, that the first q bytes of the needle both begin and end with
pub record IsFallback (needle : List ℕ) (q k : ℕ) : Type 0 where
  pub fewer : k < q
  pub ends : Agrees needle needle (q - k) k
  pub most : (d : ℕ) → 0 < d → d < q - k → ¬ Agrees needle needle d (q - d)

-- the table has the fallbacks of the first 1, 2, 3 .. bytes of the needle
abbrev pub AreFallbacks : List ℕ → List ℕ → Type 0
AreFallbacks needle table = (i : ℕ) → i < length table → IsFallback needle (i + 1) (slice_index table i)

-- Where the first q bytes of the needle stand from s on: the first k do up to the same place, and at no place before those
-- does the needle stand as far as the byte b that follows.
pub record IsSlid (needle : List ℕ) (q b k : ℕ) (text : List ℕ) (s : ℕ) : Type 0 where
  pub stands : Agrees text needle (s + q - k) k
  pub none : (t : ℕ) → s ≤ t → t < s + q - k → ¬ Agrees text needle t (s + q + 1 - t)

-- whatever the text, if the first q bytes of the needle stand in it, and b follows
abbrev pub Slides : List ℕ → ℕ → ℕ → ℕ → Type 0
Slides needle q b k = (text : List ℕ) (s : ℕ)
    → Agrees text needle s q → slice_index text (s + q) ≡ b → IsSlid needle q b k text s

-- The same with the byte b: the first r bytes of the needle stand up to it, and at no place before those does the needle
-- stand as far.
pub record IsMoved (needle : List ℕ) (q r : ℕ) (text : List ℕ) (s : ℕ) : Type 0 where
  pub stands : Agrees text needle (s + q + 1 - r) r
  pub none : (t : ℕ) → s ≤ t → t < s + q + 1 - r → ¬ Agrees text needle t (s + q + 1 - t)

abbrev pub Moves : List ℕ → ℕ → ℕ → ℕ → Type 0
Moves needle q b r = (text : List ℕ) (s : ℕ)
    → Agrees text needle s q → slice_index text (s + q) ≡ b → IsMoved needle q r text s
