-- What a whole read or a write did to the known bytes and to the counts.
use Rattle.std.specs.Prelude.{◌≡◌, ℕ, ◌≤◌, List, ◌++◌, length, take, Option, IfSome}
use Rattle.std.specs.Io.KnownBytes.{Appends, Consumes, IsAtEnd}
use Rattle.session_io.specs.Causes.{saturating_sum, end_met, Rose}

-- some front of the text was written
abbrev pub AppendsFront : Option (List ℕ) → Option (List ℕ) → List ℕ → Type 0
AppendsFront old new text = (n : ℕ) × (n ≤ length text) × Appends old new (take n text)

-- where the source says what it had left, it was this
abbrev pub Had : Option (List ℕ) → List ℕ → Type 0
Had left input = IfSome left (λ xs. input ≡ xs)

-- the source had this input left, gave all of it, and met its end
pub record WasRead (left left_after : Option (List ℕ))
    (given given_after ends ends_after : ℕ) (input : List ℕ) : Type 0 where
  pub had : Had left input
  pub at_end : IsAtEnd left_after
  pub count : given_after ≡ saturating_sum given (length input)
  pub ended : Rose ends ends_after

-- n bytes moved from a source to the end of a list, none only at the source's end
pub record Moves (left left_after : Option (List ℕ)) (all all_after : List ℕ) (n : ℕ) : Type 0 where
  pub bytes : List ℕ
  pub taken : Consumes left left_after bytes
  pub added : all_after ≡ all ++ bytes
  pub count : length bytes ≡ n
  pub end : n ≡ 0 → IsAtEnd left_after

-- what a read of n bytes into so much room did to the counts of its source
pub record Counts (given given_after ends ends_after room n : ℕ) : Type 0 where
  pub gave : given_after ≡ saturating_sum given n
  pub ended : ends_after ≡ saturating_sum ends (end_met room n)
