-- The laws of places that count shown and hidden cells.
use Rattle.std.specs.Prelude.{ℕ, ◌+◌, ◌^◌, ◌<◌, ◌≤◌}
use Rattle.std.proofs.Common.{arith, refl}
use Rattle.tree_cursor.specs.Places.{DimensionLaws}
use Rattle.tree_cursor.specs.CountingLaws.{adding_laws}
use Rattle.fragments.specs.declared.fragment.FragmentSummary.{FragmentSummary}
use Rattle.fragments.specs.Summaries.{no_fragments, summaries, IsSummary, IsOne}
use Rattle.fragments.specs.SeenPlaces.{move_visible, move_at, IsLaterAt, AtFits}
use Rattle.fragments.specs.SeenPlaceLaws.{at_laws}
use Rattle.remote_edit.specs.BesideLaws.{beside_laws}
use Rattle.remote_edit.specs.Beside.{move_beside}
use Rattle.remote_edit.specs.Passed.{IsLaterPassed, IsLaterSeen, PassedFits, SeenFits, SeenPlace, move_passed, move_seen}

pub passed_laws : DimensionLaws {P = ℕ × ℕ} {S = FragmentSummary} no_fragments summaries IsSummary IsOne IsLaterPassed move_passed PassedFits
passed_laws = beside_laws no_fragments summaries IsSummary IsOne (λ p q. p ≤ q) move_visible (λ p s. p + s.visible < 2 ^ 64) (λ s. s.hidden)
    (adding_laws no_fragments summaries IsSummary IsOne (λ s. s.visible) refl (λ a b. refl)) refl (λ a b. refl)

-- what is counted together moves forward too
pub sum_later : (p q : ℕ × ℕ) → IsLaterPassed p q → p.0 + p.1 ≤ q.0 + q.1
sum_later p q l = let a = l.0 in let b = l.1 in omega (arith, a, b)

pub seen_laws : DimensionLaws {P = SeenPlace} {S = FragmentSummary} no_fragments summaries IsSummary IsOne IsLaterSeen move_seen SeenFits
seen_laws = beside_laws no_fragments summaries IsSummary IsOne (λ p q. IsLaterAt p.0 q.0 × (p.1 ≤ q.1)) (move_beside move_at (λ s. s.visible)) (λ p s. AtFits p.0 s × (p.1 + s.visible < 2 ^ 64)) (λ s. s.hidden)
    (beside_laws no_fragments summaries IsSummary IsOne IsLaterAt move_at AtFits (λ s. s.visible) at_laws refl (λ a b. refl)) refl (λ a b. refl)
