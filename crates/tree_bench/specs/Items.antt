-- The items of the trees that are worked on.
use Rattle.std.specs.Prelude.{ℕ, Some}
use Rattle.tree_cursor.specs.declared.ready.Greatest.{Greatest}
use Rattle.tree_bench.specs.declared.tree.Number.{Number}

abbrev pub number_key : Number → ℕ
number_key x = x.key

abbrev pub number_sum : Number → Greatest ℕ
number_sum x = record { key = Some x.key }
