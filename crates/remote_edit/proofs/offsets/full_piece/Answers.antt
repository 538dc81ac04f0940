use Rattle.std.proofs.Common.{◌≡◌, ◌-◌, arith}
use Rattle.remote_edit.specs.Offsets.{full_in}
use Rattle.remote_edit.proofs.FullIn.{full_low}
use Rattle.remote_edit.proofs.offsets.full_piece.Goals as goal

pub overflow_add-end : goal.overflow_add-end
overflow_add-end c =
    let e : c.full_offset.result ≡ full_in c.args.tree.now.items (c.args.change.now.end - 1) = c.full_offset.ensures in
    let l = full_low c.args.tree.now.items (c.args.change.now.end - 1) in
    omega (arith, e, l, c.requires.room)
