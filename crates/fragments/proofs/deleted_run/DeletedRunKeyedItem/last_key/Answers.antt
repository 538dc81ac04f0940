use Rattle.tree_cursor.proofs.Lasts.{greatest_is_last}
use Rattle.fragments.specs.Index.{key_cmp}
use Rattle.fragments.specs.DeletedRuns.{run_key}
use Rattle.fragments.proofs.deleted_run.DeletedRunKeyedItem.last_key.Goals as goal

pub returns : goal.returns
returns c = λ xs a e. greatest_is_last key_cmp run_key xs c.args.sum.now a e
