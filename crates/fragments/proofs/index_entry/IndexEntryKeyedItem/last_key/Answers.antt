use Rattle.tree_cursor.proofs.Lasts.{greatest_is_last}
use Rattle.fragments.specs.Index.{key_of, key_cmp}
use Rattle.fragments.proofs.index_entry.IndexEntryKeyedItem.last_key.Goals as goal

pub returns : goal.returns
returns c = λ xs a e. greatest_is_last key_cmp key_of xs c.args.sum.now a e
