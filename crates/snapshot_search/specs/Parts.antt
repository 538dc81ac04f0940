-- How a text is divided for several threads.
use Rattle.std.specs.Prelude.{◌≡◌, ◌+◌, ◌-◌, ◌<◌, ◌≤◌, ℕ, List, length, slice_index}
use Rattle.std.specs.Str.{IsCharBoundary}

-- positions of a text, from its beginning up to `end`, none before the one in front of it
pub record AreCuts (text cuts : List ℕ) (end : ℕ) : Type 0 where
  pub some : 0 < length cuts
  pub first : slice_index cuts 0 ≡ 0
  pub last : slice_index cuts (length cuts - 1) ≡ end
  pub each : (j : ℕ) → j < length cuts → IsCharBoundary text (slice_index cuts j)
  pub rise : (j : ℕ) → j + 1 < length cuts → slice_index cuts j ≤ slice_index cuts (j + 1)
