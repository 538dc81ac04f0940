-- Counts as places.
use Rattle.std.specs.Prelude.{ℕ, Bool, nat_lt, nat_le}
use Rattle.tree_cursor.specs.declared.traits.Bias.{Bias}
use Rattle.tree_cursor.specs.declared.traits.Bias.TheVariants.{Left, Right}

abbrev pub number_passes : ℕ → ℕ → Bias → Bool
number_passes g p Left = nat_le g p
number_passes g p Right = nat_lt g p
