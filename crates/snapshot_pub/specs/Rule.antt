-- The rule of a pair: what is shown begins with all that each party has seen.
use Rattle.std.specs.Prelude.{◌≡◌, ◌⊎◌, ℕ, ◌<◌, ◌≤◌, List, ◌∷◌, length, All}
use mathlib.Core.Option.{some}
use lib.ListN.{get_elem?}
use Rattle.logbook.specs.Pages.{Named}
use Rattle.text_buffer.specs.Document.{IsFront}
use Rattle.snapshot_pub.specs.Logs.{pair_of}
use Rattle.snapshot_pub.specs.declared.kept.Kept.{Kept}

-- which pair it is of
abbrev pub kept_pair : Kept → Named
kept_pair k = pair_of k.reached.book k.reached.log

-- y is of the same pair as k, and begins with the list of k
abbrev pub Follows : Kept → Kept → Type 0
Follows y k = (kept_pair k ≡ kept_pair y) × IsFront k.snapshot y.snapshot

-- what is shown follows all that each party has seen
abbrev pub KeepsAll : Kept → List (List Kept) → Type 0
KeepsAll shown views = (seat : ℕ) (v : List Kept) → get_elem? views seat ≡ some v → All (Follows shown) v

-- y follows what was seen before, and is seen, unless it has fewer than n operations
abbrev pub Sees : ℕ → List Kept → Kept → List Kept → Type 0
Sees n v y w =
    All (Follows y) v
    × (n ≤ length y.snapshot → w ≡ y ∷ v)
    × (length y.snapshot < n → w ≡ v)

-- k follows what was seen before, and is seen
pub record IsSeen (v : List Kept) (k : Kept) (w : List Kept) : Type 0 where
  pub follows : All (Follows k) v
  pub is : w ≡ k ∷ v

-- one snapshot more was seen, or none
pub record MaySee (v w : List Kept) : Type 0 where
  pub either : (w ≡ v) ⊎ ((k : Kept) × IsSeen v k w)

-- something was seen, and all of it is of one pair
abbrev pub AreOf : Named → List Kept → Type 0
AreOf pair v = (0 < length v) × All (λ (k : Kept). kept_pair k ≡ pair) v
