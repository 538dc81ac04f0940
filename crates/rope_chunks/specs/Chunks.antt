-- What holds of a rope's chunks.
use Rattle.std.specs.Prelude.{ℕ, ◌^◌, ◌<◌, ◌≤◌, List, length}
use Rattle.std.specs.List.{All, concat}
use Rattle.std.specs.Str.{IsUtf8}

-- a chunk is a text of 1 to 128 bytes
pub record IsChunk (bs : List ℕ) : Type 0 where
  pub text : IsUtf8 bs
  pub some : 0 < length bs
  pub few : length bs ≤ 128

pub record AreChunks (cs : List (List ℕ)) : Type 0 where
  pub each : All IsChunk cs
  pub few : length (concat cs) ≤ 2 ^ 40
