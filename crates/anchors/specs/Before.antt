-- How many shown cells and how many of all lie before, and which runs of fragments reach an id.
use Rattle.std.specs.Prelude.{ℕ, ◌+◌, ◌^◌, ◌<◌, ◌≤◌, Bool, List, Option, Some}
use Rattle.tree_cursor.specs.Keys.{key_passes}
use Rattle.tree_cursor.specs.declared.traits.Bias.TheVariants.{Left}
use Rattle.fragments.specs.declared.fragment.FragmentSummary.{FragmentSummary}
use Rattle.fragments.specs.Summaries.{id_less}
use Rattle.fragments.specs.SeenPlaces.{cells_of}

-- how many shown cells lie before, and how many of all
abbrev pub CellsBefore : Type 0
CellsBefore = ℕ × ℕ

abbrev pub at : ℕ → ℕ → CellsBefore
at v n = (v, n)

abbrev pub move_before : CellsBefore → FragmentSummary → Option CellsBefore
move_before p s = Some (at (p.0 + s.visible) (p.1 + cells_of s))

abbrev pub IsLaterBefore : CellsBefore → CellsBefore → Type 0
IsLaterBefore p q = (p.0 ≤ q.0) × (p.1 ≤ q.1)

abbrev pub BeforeFits : CellsBefore → FragmentSummary → Type 0
BeforeFits p s = (p.0 + s.visible < 2 ^ 64) × (p.1 + cells_of s < 2 ^ 64)

-- the greatest id of a run is not less than i
abbrev pub reaches : List ℕ → FragmentSummary → Bool
reaches i s = key_passes id_less (Some i) s.last_id Left
