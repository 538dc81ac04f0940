-- The cells that a version sees, as places. A sum of fragments of which it sees some and not others cannot be added.
use Rattle.std.specs.Prelude.{◌≡◌, ℕ, ◌+◌, ◌^◌, ◌<◌, ◌≤◌, cond, Option, Some, None}
use Rattle.lamport_clock.specs.Versions.{Entries}
use Rattle.fragments.specs.declared.fragment.FragmentSummary.{FragmentSummary}
use Rattle.fragments.specs.Spans.{sees_all, sees_none}

abbrev pub cells_of : FragmentSummary → ℕ
cells_of s = s.visible + s.hidden

-- the number of cells before a place, and of the shown ones
abbrev pub move_full : ℕ → FragmentSummary → Option ℕ
move_full n s = Some (n + cells_of s)

abbrev pub move_visible : ℕ → FragmentSummary → Option ℕ
move_visible n s = Some (n + s.visible)

-- a version, and the number of cells before a place that it sees
abbrev pub At : Type 0
At = Entries × ℕ

abbrev pub at_place : Entries → ℕ → Option At
at_place v n = Some (v, n)

abbrev pub move_at : At → FragmentSummary → Option At
move_at p s = cond (sees_all p.0 s.span) (at_place p.0 (p.1 + cells_of s))
    (cond (sees_none p.0 s.span) (at_place p.0 p.1) None)

abbrev pub IsLaterAt : At → At → Type 0
IsLaterAt p q = (p.0 ≡ q.0) × (p.1 ≤ q.1)

abbrev pub AtFits : At → FragmentSummary → Type 0
AtFits p s = p.1 + cells_of s < 2 ^ 64
