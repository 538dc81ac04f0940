use Rattle.std.proofs.Common.{arith}
use Rattle.undo_map.specs.declared.entry.UndoEntry.{UndoEntry}
use Rattle.undo_map.proofs.Setting.{with_count_long}
use Rattle.buffer_tests.proofs.undo_counts.keep.Goals as goal

pub set-requires : goal.set-requires
set-requires c =
    let e : UndoEntry = record { edit = c.args.edit; by = c.args.by; count = c.args.count } in
    let l = with_count_long e c.args.map.now in
    omega (arith, l)
