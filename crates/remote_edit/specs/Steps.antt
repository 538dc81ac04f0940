-- Steps of the walk over a tree.
use Rattle.std.specs.Prelude.{◌≡◌, ℕ, ◌+◌, ◌<◌, ◌≤◌, ◌&&◌, not, Bool, false, List, [], ◌∷◌, ◌++◌, ◌⊎◌, length, take, drop, Option, Some, None, option_to_list}
use Rattle.lamport_clock.specs.declared.stamp.Lamport.{Lamport}
use Rattle.lamport_clock.specs.Stamps.{later}
use Rattle.lamport_clock.specs.Versions.{Entries, sees}
use Rattle.undo_map.specs.declared.entry.UndoEntry.{UndoEntry}
use Rattle.fragments.specs.declared.fragment.Fragment.{Fragment}
use Rattle.fragments.specs.Laws.{cells_len}
use Rattle.fragments.specs.Summaries.{summary_of}
use Rattle.fragments.specs.SeenPlaces.{move_at}
use Rattle.tree_cursor.specs.Places.{seek_count}
use Rattle.tree_cursor.specs.Counting.{number_passes}
use Rattle.tree_cursor.specs.declared.traits.Bias.TheVariants.{Left}
use Rattle.remote_edit.specs.Walk.{seen_bytes, Fit, Zip, zip, advance}

abbrev pub head : List Fragment → Option Fragment
head [] = None
head (f ∷ fs) = Some f

abbrev pub tail : List Fragment → List Fragment
tail [] = []
tail (f ∷ fs) = fs

-- what lies before the place: the first i of a tree's fragments xs, and those that were made
abbrev pub before : List Fragment → ℕ → List Fragment → List Fragment
before xs i made = take i xs ++ made

-- what lies after it: what is left of one, and those from j on
abbrev pub after : List Fragment → ℕ → Option Fragment → List Fragment
after xs j back = option_to_list back ++ drop j xs

-- the first of fragments is later than t, and v does not see it
abbrev pub later_first : Lamport → Entries → List Fragment → Bool
later_first t v [] = false
later_first t v (f ∷ fs) = later f.stamp t && not (sees v f.stamp)

-- the number of fragments before the one that has the last of the first n cells that v sees
abbrev pub seen_stop : Entries → ℕ → List Fragment → ℕ
seen_stop v n fs = seek_count move_at summary_of (λ p. number_passes n p.1 Left) (v, 0) fs

-- from one place with n cells to pass to another with k of them, on one way
pub record IsOnWay (m : Option (List UndoEntry)) (t : Lamport) (v : Entries) (n : ℕ)
    (pre rest : List Fragment) (k : ℕ) (pre2 rest2 : List Fragment) (p : ℕ) : Type 0 where
  pub place : p ≡ seen_bytes v pre2
  pub goes : advance m t v k pre2 rest2 ≡ advance m t v n pre rest
  pub fit : Fit (pre2 ++ rest2)
  pub same : cells_len (pre2 ++ rest2) ≡ cells_len (pre ++ rest)
  pub less : k + length rest2 < n + length rest

-- the place z is reached, with n cells in all
pub record IsAt (v : Entries) (z : Zip) (n : ℕ) (pre rest : List Fragment) (p : ℕ) : Type 0 where
  pub place : p ≡ seen_bytes v pre
  pub goes : zip pre rest ≡ z
  pub fit : Fit (pre ++ rest)
  pub same : cells_len (pre ++ rest) ≡ n

-- from place i of xs with n cells to pass to place j with k of them, on one way over whole fragments
pub record IsSought (t : Lamport) (v : Entries) (xs : List Fragment) (n : ℕ) (i : ℕ) (k : ℕ) (j p : ℕ) : Type 0 where
  pub goes : advance None t v k (take j xs) (drop j xs) ≡ advance None t v n (take i xs) (drop i xs)
  pub within : j ≤ length xs
  pub place : p ≡ seen_bytes v (take j xs)

-- where a seek over n cells stops: at the fragment that has the last of them, or after it if they end with it
abbrev pub IsStop : Entries → ℕ → List Fragment → ℕ → Type 0
IsStop v n fs i = (i ≡ seen_stop v n fs) ⊎ ((i ≡ seen_stop v n fs + 1) × (seen_bytes v (take i fs) ≡ n))
