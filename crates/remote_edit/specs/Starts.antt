-- What bounds the number of nodes that an edit makes if it has seen all fragments.
use Rattle.std.specs.Prelude.{◌≡◌, ℕ, ◌+◌, ◌-◌, ◌*◌, ◌≤◌, max, min, true, List, [], ◌∷◌, length, option_to_list}
use Rattle.std.specs.List.{AllByRecursion}
use Rattle.lamport_clock.specs.Versions.{Entries, sees}
use Rattle.fragments.specs.declared.fragment.Fragment.{Fragment}
use Rattle.remote_edit.specs.declared.gather.Gather.{Gather}
use Rattle.remote_edit.specs.Gathers.{ahead}

-- v sees the edit of each fragment
abbrev pub AllSeen : Entries → List Fragment → Type 0
AllSeen v fs = AllByRecursion (λ (f : Fragment). sees v f.stamp ≡ true) fs

-- the number of fragments whose first cell is in a..b
abbrev pub starts : ℕ → ℕ → List Fragment → ℕ
starts a b [] = 0
starts a b (f ∷ fs) = (min 1 b - a) + starts (a - f.len) (b - f.len) fs

-- after a seek over n cells of the fragments xs, k cells are left to pass among ys: with r more cells, these touch one
-- fragment of those that the n cells touch, and those that begin after them
abbrev pub IsLeft : Entries → ℕ → List Fragment → ℕ → List Fragment → Type 0
IsLeft v n xs k ys = AllSeen v ys × ((r : ℕ) → starts 0 (k + r) ys ≤ 1 + starts (max 1 n) (n + r) xs)

-- the number of a tree's fragments xs that a gather has taken once it has passed n more cells
abbrev pub intake : List Fragment → Gather → ℕ → ℕ
intake xs g n = g.at + starts (length (option_to_list g.back)) n (ahead xs g)

-- from the gather g with n cells to pass to g2 with k of them, no more fragments are taken than the n cells touch
pub record IsFew (v : Entries) (xs : List Fragment) (g : Gather) (n : ℕ) (g2 : Gather) (k : ℕ) : Type 0 where
  pub seen : AllSeen v (ahead xs g2)
  pub few : (r : ℕ) → intake xs g2 (k + r) ≤ intake xs g (n + r)

-- the steps between old and new if n fragments replace those in low..high: at most 256 (1 + c) for each c such that at
-- most 1 + c are replaced by at most c + 4
abbrev pub MakeFew : ℕ → ℕ → ℕ → ℕ → ℕ → Type 0
MakeFew old new low high n = (c : ℕ) → high ≤ low + (1 + c) → n ≤ c + 4 → new ≤ old + 256 * (1 + c)

-- fragments that a gather of the range a..b made cost few steps in the place of those that it took
abbrev pub TakeFew : List Fragment → ℕ → ℕ → Gather → Type 0
TakeFew fs a b g = (old new : ℕ) → MakeFew old new g.from g.at (length g.made.items + length (option_to_list g.back))
    → new ≤ old + 256 * (1 + starts (max 1 a) (a + (b - a)) fs)
