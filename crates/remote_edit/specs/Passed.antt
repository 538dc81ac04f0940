-- The numbers of shown and hidden cells before a place.
use Rattle.std.specs.Prelude.{ℕ, ◌+◌, ◌^◌, ◌<◌, ◌≤◌, Option}
use Rattle.fragments.specs.declared.fragment.FragmentSummary.{FragmentSummary}
use Rattle.fragments.specs.SeenPlaces.{move_visible, At, move_at, IsLaterAt, AtFits}
use Rattle.remote_edit.specs.Beside.{move_beside}

abbrev pub move_passed : ℕ × ℕ → FragmentSummary → Option (ℕ × ℕ)
move_passed = move_beside move_visible (λ s. s.hidden)

abbrev pub IsLaterPassed : ℕ × ℕ → ℕ × ℕ → Type 0
IsLaterPassed p q = (p.0 ≤ q.0) × (p.1 ≤ q.1)

abbrev pub PassedFits : ℕ × ℕ → FragmentSummary → Type 0
PassedFits p s = (p.0 + s.visible < 2 ^ 64) × (p.1 + s.hidden < 2 ^ 64)

-- the number of cells before a place that a version sees, and the numbers of shown and hidden ones
abbrev pub SeenPlace : Type 0
SeenPlace = (At × ℕ) × ℕ

abbrev pub move_seen : SeenPlace → FragmentSummary → Option SeenPlace
move_seen = move_beside (move_beside move_at (λ s. s.visible)) (λ s. s.hidden)

abbrev pub IsLaterSeen : SeenPlace → SeenPlace → Type 0
IsLaterSeen p q = (IsLaterAt p.0.0 q.0.0 × (p.0.1 ≤ q.0.1)) × (p.1 ≤ q.1)

abbrev pub SeenFits : SeenPlace → FragmentSummary → Type 0
SeenFits p s = (AtFits p.0.0 s × (p.0.1 + s.visible < 2 ^ 64)) × (p.1 + s.hidden < 2 ^ 64)
