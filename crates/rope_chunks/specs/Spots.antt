-- Where an offset lies among chunks, and what a change of a range of them is.
use Rattle.std.specs.Prelude.{◌≡◌, ℕ, ◌+◌, ◌-◌, ◌≤◌, ◌==◌, nat_le, if◌then◌else◌, List, [], ◌∷◌, ◌++◌, length, take, drop, slice_get, Some}
use Rattle.std.specs.List.{All, concat}
use Rattle.rope_chunks.specs.Chunks.{IsChunk}

-- chunk i is c, and from its byte r on stands what stands from offset o on
pub record IsSpot (cs : List (List ℕ)) (o i : ℕ) (c : List ℕ) (r : ℕ) : Type 0 where
  pub at : slice_get cs i ≡ Some c
  pub offset : length (concat (take i cs)) + r ≡ o
  pub within : r ≤ length c

-- the text of some chunks with another in the place of those from i up to j
abbrev pub text_with : ℕ → ℕ → List ℕ → List (List ℕ) → List ℕ
text_with i j bs cs = (concat (take i cs) ++ bs) ++ concat (drop j cs)

-- with the chunks ys in the place of those from i up to j, the text of the chunks cs is bs
pub record IsChange (cs : List (List ℕ)) (bs : List ℕ) (i j : ℕ) (ys : List (List ℕ)) : Type 0 where
  pub order : i ≤ j
  pub within : j ≤ length cs
  pub text : text_with i j (concat ys) cs ≡ bs
  pub each : All IsChunk ys

-- ---- texts that are cut

-- the texts ts after a first one, which is left out if it is empty
abbrev pub with_first : List ℕ → List (List ℕ) → List (List ℕ)
with_first [] ts = ts
with_first (b ∷ bs) ts = (b ∷ bs) ∷ ts

-- the texts that have the first n bytes, the last one cut
abbrev pub texts_up_to : ℕ → List (List ℕ) → List (List ℕ)
texts_up_to n [] = []
texts_up_to n (t ∷ ts) = if n == 0 then [] else if nat_le (length t) n then t ∷ texts_up_to (n - length t) ts else take n t ∷ []
