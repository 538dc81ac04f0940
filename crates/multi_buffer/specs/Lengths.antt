-- How many excerpts there are, and how many bytes they have, as sums and as places.
use Rattle.std.specs.Prelude.{ℕ, ◌+◌, ◌^◌, ◌<◌, ◌≤◌, List, [], ◌∷◌, length, Option, Some}
use Rattle.multi_buffer.specs.State.{size}
use Rattle.multi_buffer.specs.declared.excerpt.Excerpt.{Excerpt}
use Rattle.multi_buffer.specs.declared.lengths.Lengths.{Lengths}

abbrev pub no_lengths : Lengths
no_lengths = record { excerpts = 0; bytes = 0 }

abbrev pub add_lengths : Lengths → Lengths → Lengths
add_lengths a b = record { excerpts = a.excerpts + b.excerpts; bytes = a.bytes + b.bytes }

abbrev pub AnyLengths : Lengths → Type 0
AnyLengths a = Unit {0}

-- each number is one that its type has
pub record LengthsFit (a : Lengths) : Type 0 where
  pub excerpts : a.excerpts < 2 ^ 64
  pub bytes : a.bytes < 2 ^ 64

abbrev pub lengths_of_excerpt : Excerpt → Lengths
lengths_of_excerpt x = record { excerpts = 1; bytes = size x }

-- the bytes of all
abbrev pub size_sum : List Excerpt → ℕ
size_sum [] = 0
size_sum (x ∷ xs) = size x + size_sum xs

abbrev pub lengths_of : List Excerpt → Lengths
lengths_of xs = record { excerpts = length xs; bytes = size_sum xs }

-- where the text goes on after them: each has an LF after it
abbrev pub offset_after : Lengths → ℕ
offset_after a = a.bytes + a.excerpts

-- ---- as places

abbrev pub move_place : Lengths → Lengths → Option Lengths
move_place p a = Some (add_lengths p a)

pub record IsLater (p q : Lengths) : Type 0 where
  pub excerpts : p.excerpts ≤ q.excerpts
  pub bytes : p.bytes ≤ q.bytes

abbrev pub PlaceFits : Lengths → Lengths → Type 0
PlaceFits p a = LengthsFit (add_lengths p a)
