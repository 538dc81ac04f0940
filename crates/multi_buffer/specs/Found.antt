-- The excerpt at which a seek stops, for private clauses.
use Rattle.std.specs.Prelude.{◌≡◌, ℕ, ◌+◌, ◌<◌, ◌≤◌, ◌^◌, List, ◌∷◌, ◌++◌, length, Option, Some, None}
use Rattle.std.specs.List.{AllByRecursion, HoldsAt, AllWithin}
use Rattle.multi_buffer.specs.Lengths.{lengths_of, lengths_of_excerpt, offset_after}
use Rattle.multi_buffer.specs.declared.excerpt.Excerpt.{Excerpt}
use Rattle.multi_buffer.specs.declared.source.Source.{Source}
use Rattle.multi_buffer.specs.declared.lengths.Lengths.{Lengths}

-- what a length counts reaches past o in the excerpt, and b is the lengths before it; or it does not reach past o
abbrev pub IsFound : (Lengths → ℕ) → List Excerpt → ℕ → Option Excerpt → Lengths → Type 0
IsFound count xs o None b = (b ≡ lengths_of xs) × (count b ≤ o)
IsFound count xs o (Some x) b = (pre post : List Excerpt) × (xs ≡ pre ++ x ∷ post) × (b ≡ lengths_of pre)
    × (count b ≤ o) × (o < count b + count (lengths_of_excerpt x))

-- by the offset in the text, and by the index
abbrev pub IsAtOffset : List Excerpt → ℕ → Option Excerpt → Lengths → Type 0
IsAtOffset = IsFound offset_after

abbrev pub IsAtIndex : List Excerpt → ℕ → Option Excerpt → Lengths → Type 0
IsAtIndex = IsFound (λ b. b.excerpts)

-- an excerpt of a text of at most 2^40 bytes
pub record IsShort (x : Excerpt) : Type 0 where
  pub order : x.start ≤ x.end
  pub end : x.end ≤ 2 ^ 40

-- there are at most 2^20 of them
pub record AreShort (xs : List Excerpt) : Type 0 where
  pub few : length xs ≤ 2 ^ 20
  pub each : AllByRecursion IsShort xs

-- ---- buffers by binary search

-- buffer b is at place i
pub record IsPlace (b : ℕ) (ss : List Source) (i : ℕ) : Type 0 where
  pub within : i < length ss
  pub buffer : HoldsAt (λ (s : Source). s.buffer ≡ b) ss i

-- it would go to place i: lesser buffers are before it, and greater ones from it on
pub record IsGap (b : ℕ) (ss : List Source) (i : ℕ) : Type 0 where
  pub within : i ≤ length ss
  pub lesser : AllWithin (λ (s : Source). s.buffer < b) ss 0 i
  pub greater : AllWithin (λ (s : Source). b < s.buffer) ss i (length ss)
