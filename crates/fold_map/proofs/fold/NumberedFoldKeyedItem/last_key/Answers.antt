use Rattle.std.proofs.Common.{nat_cmp}
use Rattle.tree_cursor.proofs.Lasts.{greatest_is_last}
use Rattle.fold_map.specs.Numbered.{number_of}
use Rattle.fold_map.proofs.fold.NumberedFoldKeyedItem.last_key.Goals as goal

pub returns : goal.returns
returns c = λ xs a e. greatest_is_last nat_cmp number_of xs c.args.sum.now a e
