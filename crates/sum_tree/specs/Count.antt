-- Counts, and their sums.
use Rattle.std.specs.Prelude.{ℕ, ◌+◌, ◌^◌, ◌<◌}
use Rattle.sum_tree.specs.declared.count.Count.{Count}

abbrev pub no_items : Count
no_items = record { items = 0 }

abbrev pub count_sum : Count → Count → Count
count_sum a b = record { items = a.items + b.items }

abbrev pub AnyCount : Count → Type 0
AnyCount a = Unit {0}

abbrev pub CountFits : Count → Type 0
CountFits a = a.items < 2 ^ 64
