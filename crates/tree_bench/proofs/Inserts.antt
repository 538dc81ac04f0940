-- An insertion adds one item at most.
use Rattle.std.proofs.Common.{ℕ, List, length, ◌≤◌, ◌+◌, nat_cmp}
use Rattle.std.proofs.lemmas.Cmp.{nat_cmp_total}
use Rattle.sum_tree.specs.Keyed.{insert_item}
use Rattle.sum_tree.proofs.Keys.{inserted_short}
use Rattle.tree_bench.specs.Items.{number_key}
use Rattle.tree_bench.specs.declared.tree.Number.{Number}

pub one_more : (x : Number) (xs : List Number) → length (insert_item nat_cmp number_key x xs) ≤ length xs + 1
one_more x xs = inserted_short nat_cmp number_key nat_cmp_total x xs
