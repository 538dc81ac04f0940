use Rattle.std.proofs.Common.{arith}
use Rattle.fragments.specs.declared.index_entry.IndexEntry.{IndexEntry}
use Rattle.fragments.proofs.Entries.{with_entry_long}
use Rattle.buffer_tests.proofs.trees.keep.Goals as goal

pub add-requires : goal.add-requires
add-requires c =
    let e : IndexEntry = record { stamp = c.args.at; offset = c.args.offset; id = c.args.id } in
    let l = with_entry_long e c.args.index.now.entries in
    omega (arith, l)
