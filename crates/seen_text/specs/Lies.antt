-- Where a byte that a version sees lies among fragments.
use Rattle.std.specs.Prelude.{◌≡◌, ℕ, ◌+◌, ◌<◌, ◌≤◌, true, List, ◌∷◌, ◌++◌, Option, Some, None}
use Rattle.lamport_clock.specs.Versions.{Entries, sees}
use Rattle.fragments.specs.declared.fragment.Fragment.{Fragment}
use Rattle.fragments.specs.Laws.{shown_len}
use Rattle.remote_edit.specs.Walk.{seen_bytes}
use Rattle.remote_edit.specs.Carried.{hidden_len}

-- the byte at a place lies in f, with the numbers of the cells before f: those that v sees, the shown and the hidden ones
pub record Lies (v : Entries) (fs : List Fragment) (place : ℕ) (f : Fragment) (bytes visible hidden : ℕ) : Type 0 where
  pub pre : List Fragment
  pub post : List Fragment
  pub parts : fs ≡ pre ++ f ∷ post
  pub seen : sees v f.stamp ≡ true
  pub low : bytes ≤ place
  pub high : place < bytes + f.len
  pub bytes_before : bytes ≡ seen_bytes v pre
  pub shown_before : visible ≡ shown_len pre
  pub hidden_before : hidden ≡ hidden_len pre

-- the same of the fragment that is found; if none is, v sees that number of cells, and the place is past them
abbrev pub IsFound : Entries → List Fragment → ℕ → Option Fragment → ℕ → ℕ → ℕ → Type 0
IsFound v fs place (Some f) bytes visible hidden = Lies v fs place f bytes visible hidden
IsFound v fs place None bytes visible hidden = (bytes ≡ seen_bytes v fs) × (bytes ≤ place)
